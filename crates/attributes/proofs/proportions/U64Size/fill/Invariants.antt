-- `Size::fill` of parcels meets its contract: the entries are written one after the other. Assumes nothing.
use Rattle.std.proofs.Common.{get_or}
use Rattle.laws.proofs.Filling.{Tabling}
use Rattle.floats.specs.Values.{whole}
use Rattle.attributes.proofs.proportions.U64Size.fill.Given as goal

abbrev pub invariant-loop-i : goal.invariant-loop-i
invariant-loop-i l =
    Tabling (λ k. whole (get_or l.sizes k 0)) l.n l.initial.out l.out l.i
