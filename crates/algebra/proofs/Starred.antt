-- Theorem 8: C1 to C12, the starred cases, as one table under one statement. Theorem 19: cases of the order of making. Both by computing.
-- Assumes nothing.
use mathlib.Core.Path.{refl}
use mathlib.Core.List.{[]}
use Rattle.diagram.specs.Table.{at, value}
use Rattle.diagram.specs.Cofactor.{map, edges_of}
use Rattle.algebra.specs.Overlay.{below, beside, above, overlay, join, merge}
use Rattle.algebra.specs.Making.{find, intern, first_sign, settle}
use Rattle.algebra.specs.Conditions.{up_to, between, from_range, comparison, from_bool}
use Rattle.algebra.specs.Conjunction.{walk, walk_back, walk_in, opening, conj_node, conj_step, conj, or}
use Rattle.algebra.specs.Disjointness.{every, disjoint_step, disjoint}
use Rattle.algebra.specs.Changing.{is_before, change_step, change, restrict, cut_above, narrow, widen}
use Rattle.algebra.specs.Cases.{Hold, starred}
use Rattle.algebra.specs.Orders.{HoldEach, orders}

pub starred_cases_hold : Hold [] starred
unfolding at value map edges_of below beside above overlay join merge find intern first_sign settle up_to between from_range comparison from_bool walk walk_back walk_in opening conj_node conj_step conj or every disjoint_step disjoint starred
starred_cases_hold = (refl, (refl, (refl, (refl, (refl, (refl, (refl, (refl, (refl, (refl, (refl, (refl, (refl, (refl, (refl, (refl, (refl, (refl, tt))))))))))))))))))

pub orders_hold : HoldEach orders
unfolding at map edges_of below beside above overlay join merge find intern first_sign settle up_to between from_range comparison from_bool walk walk_back walk_in opening conj_node conj_step conj or is_before change_step change restrict cut_above narrow widen orders
orders_hold = ((refl, (refl, (refl, (refl, (refl, (refl, (refl, (refl, (refl, (refl, tt)))))))))), ((refl, (refl, (refl, (refl, (refl, (refl, (refl, (refl, (refl, tt))))))))), ((refl, (refl, (refl, (refl, (refl, (refl, (refl, (refl, (refl, (refl, (refl, tt))))))))))), ((refl, (refl, (refl, (refl, (refl, (refl, (refl, (refl, (refl, (refl, (refl, (refl, (refl, (refl, (refl, (refl, (refl, (refl, (refl, (refl, (refl, tt))))))))))))))))))))), tt))))
