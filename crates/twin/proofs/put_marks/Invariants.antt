-- `twin::put_marks` meets its contract. The bytes are written two at a time. Assumes nothing.
use Prim.Native.Nat.{◌*◌}
use Rattle.laws.proofs.Filling.{Filling}
use Rattle.twin.specs.Bytes.{bytes_of}
use Rattle.twin.proofs.put_marks.Given as goal

abbrev pub invariant-loop-i : goal.invariant-loop-i
invariant-loop-i l =
    Filling (bytes_of l.ms) l.initial.out l.out (2 * l.i)
