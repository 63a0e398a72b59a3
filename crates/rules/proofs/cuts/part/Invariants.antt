-- `rules::cuts::part` meets its contract: one stop after the other. Assumes nothing.
use mathlib.Core.Path.{◌≡◌}
use lib.ListN.{length, drop}
use Rattle.stops.specs.Cuts.{by_stops}
use Rattle.rules.specs.Cuts.{cut_marks}
use Rattle.rules.proofs.cuts.part.Given as goal

abbrev pub invariant-loop-p : goal.invariant-loop-p
invariant-loop-p l =
    (length l.marks ≡ length l.initial.marks)
    × (by_stops cut_marks (drop l.p-index l.stops) l.moving l.marks ≡ by_stops cut_marks l.stops l.moving l.initial.marks)
