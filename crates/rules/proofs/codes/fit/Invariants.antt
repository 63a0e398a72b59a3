-- `rules::codes::fit` meets its contract: the marks are masked one after the other. Assumes nothing.
use Prim.Native.Nat.{◌+◌}
use lib.Bits.{bit_and}
use lib.ListN.{get_or}
use Rattle.laws.proofs.Filling.{Tabling}
use Rattle.rules.specs.Codes.{fits_at}
use Rattle.rules.proofs.codes.fit.Given as goal

abbrev pub invariant-loop-i : goal.invariant-loop-i
invariant-loop-i l =
    Tabling (λ j. bit_and (get_or l.initial.out j 0) (fits_at (l.from + j))) l.k l.initial.out l.out l.i
