-- `stops::wrong` meets its contract: one position after the other, each behind the last. Assumes nothing.
use mathlib.Core.Path.{◌≡◌}
use lib.ListN.{drop}
use Rattle.stops.specs.Stops.{stops_wrong, main_points}
use Rattle.stops.proofs.Rising.{wrong_from}
use Rattle.stops.proofs.wrong.Given as goal

abbrev pub invariant-loop-p : goal.invariant-loop-p
invariant-loop-p l =
    wrong_from (main_points l.moving l.points) l.last (drop l.p-index l.stops) ≡ stops_wrong (main_points l.moving l.points) l.stops
