use mathlib.Core.Path.{refl, ap}
use Prim.Native.Nat.{ℕ, ◌+◌}
use Rattle.making.proofs.Fronts.{ordered_cmp, tested_same, tested_other, number_decided, number_further, ordered_decided, ordered_further, edge_at_equal}
use Rattle.making.proofs.chain.front_compared.Goals as goal

-- Part by part, until one decides.
pub returns-then-is_ne : goal.returns-then-is_ne
returns-then-is_ne c = number_decided _ _ c.var_of.ensures.0 (ordered_cmp c.cmp-by_variable.ensures) (tested_other _ c.is_ne.ensures c.if-is_ne.true)

pub returns-then-is_ne-2 : goal.returns-then-is_ne-2
returns-then-is_ne-2 c =
    number_further c.var_of.ensures.0 (ordered_cmp c.cmp-by_variable.ensures) (tested_same _ c.is_ne.ensures c.if-is_ne.false)
    (number_decided _ _ c.count_of.ensures.0 (ordered_cmp c.cmp-by_count.ensures) (tested_other _ c.is_ne-2.ensures c.if-is_ne-2.true))

pub returns-then-is_ne-3 : goal.returns-then-is_ne-3
returns-then-is_ne-3 c =
    number_further c.var_of.ensures.0 (ordered_cmp c.cmp-by_variable.ensures) (tested_same _ c.is_ne.ensures c.if-is_ne.false)
    (number_further c.count_of.ensures.0 (ordered_cmp c.cmp-by_count.ensures) (tested_same _ c.is_ne-2.ensures c.if-is_ne-2.false)
    (ordered_decided _ _ _ _ refl (edge_at_equal c.args.table.now.children.now c.args.table.now.cuts.now c.first_of-e.ensures.0 c.edge_compared-by_first.ensures) (tested_other _ c.is_ne-3.ensures c.if-is_ne-3.true)))

pub returns : goal.returns
returns c =
    number_further c.var_of.ensures.0 (ordered_cmp c.cmp-by_variable.ensures) (tested_same _ c.is_ne.ensures c.if-is_ne.false)
    (number_further c.count_of.ensures.0 (ordered_cmp c.cmp-by_count.ensures) (tested_same _ c.is_ne-2.ensures c.if-is_ne-2.false)
    (ordered_further _ _ ((edge_at_equal c.args.table.now.children.now c.args.table.now.cuts.now c.first_of-e.ensures.0 c.edge_compared-by_first.ensures).same (tested_same _ c.is_ne-3.ensures c.if-is_ne-3.false)) (edge_at_equal c.args.table.now.children.now c.args.table.now.cuts.now (ap (λ (i : ℕ). i + 1) c.first_of-e.ensures.0) c.edge_compared.ensures)))
