-- `stops::since` meets its contract: one stop after the other. Assumes nothing.
use mathlib.Core.Path.{◌≡◌}
use lib.ListN.{drop}
use Rattle.stops.specs.Cuts.{by_stops, nearer}
use Rattle.stops.proofs.since.Given as goal

abbrev pub invariant-loop-p : goal.invariant-loop-p
invariant-loop-p l =
    by_stops (nearer l.at) (drop l.p-index l.stops) l.moving l.first ≡ by_stops (nearer l.at) l.stops l.moving 0
