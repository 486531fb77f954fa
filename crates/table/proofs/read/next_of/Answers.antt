use Prim.Native.Nat.{◌+◌, ◌*◌, ◌-◌}
use mathlib.Core.Path.{ap, sym, ◌∙◌}
use Rattle.table.specs.Held.{edges_from}
use Rattle.table.specs.Checking.{spots}
use Rattle.table.proofs.Laws as laws
use Rattle.diagram.specs.Pieces.{select}
use Rattle.table.proofs.Scan.{next_range, next_at, kid_earlier}
use Rattle.table.proofs.read.next_of.Goals as goal

pub returns-then-v-lt-FIRST_BOOLEAN : goal.returns-then-v-lt-FIRST_BOOLEAN
returns-then-v-lt-FIRST_BOOLEAN c = let r = c.requires.3 in let v = c.var_of-v.ensures.0 in let k = c.count_of-count.ensures.0 in let f = c.first_of-first.ensures.0 in
    record {
      right = c.choose.ensures.right ∙ (ap (select (edges_from c.args.table.now.children.now c.args.table.now.cuts.now c.first_of-first.result (c.count_of-count.result - 1))) c.cut_position_at-p.ensures.0 ∙ (sym (next_range c.args.table.now.children.now c.args.table.now.cuts.now c.args.places.now c.args.bools c.var_of-v.result c.first_of-first.result c.count_of-count.result c.if-v-lt-FIRST_BOOLEAN.true) ∙ next_at c.args.table.now.children.now c.args.table.now.cuts.now c.args.places.now c.args.bools (spots c.args.places.now c.args.bools) v f k));
      earlier = c.choose.ensures.among (c.args.n * 2 + 2) (λ j l. kid_earlier (laws.kids_stand_at_equal (sym v) (sym f) (sym k) r.edges) j l);
    }
