-- `groups::read_number` meets its contract. `Reads` of proofs/ReadLoop.antt is the loop's invariant. Assumes nothing.
use Rattle.groups.proofs.ReadLoop.{Reads}
use Rattle.groups.proofs.read_number.Given as goal

abbrev pub invariant-loop-n : goal.invariant-loop-n
invariant-loop-n l =
    Reads l.rest l.value l.n
