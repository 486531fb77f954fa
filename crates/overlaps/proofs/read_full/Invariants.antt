-- `read_full`: no more bytes were read than the buffer has room for. Assumes nothing.
use Rattle.std.proofs.Common.{length, ◌≤◌}
use Rattle.overlaps.proofs.read_full.Given as goal

abbrev pub invariant-loop : goal.invariant-loop
invariant-loop g l = l.done ≤ length l.buffer
