-- `twin::read_floats` meets its contract. The values are written one after the other. Assumes nothing.
use Prim.Native.Nat.{◌/◌}
use lib.ListN.{length}
use Rattle.laws.proofs.Filling.{Tabling}
use Rattle.twin.specs.Bytes.{float_at}
use Rattle.twin.proofs.read_floats.Given as goal

abbrev pub invariant-loop-i : goal.invariant-loop-i
invariant-loop-i l =
    Tabling (float_at l.b) (length l.b / 8) l.initial.out l.out l.i
