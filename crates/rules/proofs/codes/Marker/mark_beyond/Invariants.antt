-- `rules::codes::Marker::mark_beyond` meets its contract. The marks are written one after the other. Assumes nothing.
use lib.ListN.{length}
use Rattle.laws.proofs.Filling.{Tabling}
use Rattle.stops.specs.Cuts.{unbroken}
use Rattle.rules.specs.Marking.{marks_at}
use Rattle.rules.proofs.codes.Marker.mark_beyond.Given as goal

abbrev pub invariant-loop-i : goal.invariant-loop-i
invariant-loop-i l =
    Tabling (marks_at unbroken l.self.lines l.self.set l.values) (length l.values) l.initial.out l.out l.i
