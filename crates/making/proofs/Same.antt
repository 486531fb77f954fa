-- The same slices of the caller's, from one step to the next. Assumes nothing.
use mathlib.Core.Path.{refl, ◌∙◌}
use Rattle.making.specs.declared.used.UsedTable.{UsedTable}
use Rattle.making.specs.Working.{SameSlices}

pub same_refl : (t : UsedTable) → SameSlices t t
same_refl t = record { nodes = refl; children = refl; cuts = refl; index = refl }

pub same_trans : {a b c : UsedTable} → SameSlices a b → SameSlices b c → SameSlices a c
same_trans p q = record { nodes = q.nodes ∙ p.nodes; children = q.children ∙ p.children; cuts = q.cuts ∙ p.cuts; index = q.index ∙ p.index }
