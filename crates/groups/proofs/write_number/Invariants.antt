-- `groups::write_number` meets its contract. `Writes` of proofs/WriteLoop.antt is the loop's invariant. Assumes nothing.
use Rattle.groups.proofs.WriteLoop.{Writes}
use Rattle.groups.proofs.write_number.Given as goal

abbrev pub invariant-loop-byte : goal.invariant-loop-byte
invariant-loop-byte l =
    Writes l.x l.byte-items l.rest l.byte-index
