-- `plots::fill_values` meets its contract: the entries are written one after the other. Assumes nothing.
use Rattle.std.proofs.Common.{get_or, length}
use lib.Ieee.{nan, binary64, div}
use Rattle.laws.proofs.Filling.{Tabling}
use Rattle.floats.specs.Values.{whole}
use Rattle.attributes.proofs.plots.fill_values.Given as goal

abbrev pub invariant-loop-i : goal.invariant-loop-i
invariant-loop-i l =
    Tabling (λ k. div binary64 (whole (get_or l.counts k 0)) (get_or l.sizes k nan)) (length l.initial.out) l.initial.out l.out l.i
