-- `Held::fill` meets its contract. The points are written one after the other. Assumes nothing.
use Rattle.laws.proofs.Filling.{Tabling}
use Rattle.evaluating.specs.Series.{point_at, points_in}
use Rattle.evaluating.specs.Steps.{place_of, asks}
use Rattle.evaluating.proofs.right.Held.fill.Given as goal

abbrev pub invariant-loop-i : goal.invariant-loop-i
invariant-loop-i l =
    Tabling (point_at (asks l.self) (place_of l.series)) (points_in l.self.chart (place_of l.series)) l.initial.out l.out l.i
