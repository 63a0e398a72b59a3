-- `spc_report::read_input` reads further into the room in each turn.
use Rattle.std.proofs.Common.{◌≤◌, ◌-◌, length}
use Rattle.spc_report.proofs.read_input.Given as goal

abbrev pub invariant-loop-done : goal.invariant-loop-done
invariant-loop-done g l = l.done ≤ length l.room

abbrev pub decreases-loop-done : goal.decreases-loop-done
decreases-loop-done g l = length l.room - l.done
