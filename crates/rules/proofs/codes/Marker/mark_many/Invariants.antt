-- `rules::codes::Marker::mark_many` meets its contract: each block brings the next marks. Assumes nothing.
use Prim.Native.Nat.{◌-◌}
use lib.ListN.{length}
use Rattle.laws.proofs.Filling.{Tabling}
use Rattle.stops.specs.Cuts.{unbroken}
use Rattle.rules.specs.Marking.{marks_at}
use Rattle.rules.proofs.codes.Marker.mark_many.Given as goal

abbrev pub invariant-loop-at : goal.invariant-loop-at
invariant-loop-at l =
    Tabling (marks_at unbroken l.self.lines l.self.set l.values) (length l.values) l.initial.out l.out l.at

abbrev pub decreases-loop-at : goal.decreases-loop-at
decreases-loop-at l =
    length l.values - l.at
