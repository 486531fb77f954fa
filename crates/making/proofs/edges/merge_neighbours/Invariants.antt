use Rattle.making.proofs.Merged.{Merging}
use Rattle.making.proofs.edges.merge_neighbours.Given as goal

-- `edges::merge_neighbours` meets its contract. Assumes nothing.
abbrev pub invariant-loop-j : goal.invariant-loop-j
invariant-loop-j l = Merging l.initial.es l.es l.last l.len l.j
