-- `stops::past_the_last` meets its contract. Assumes nothing.
use mathlib.Core.Path.{sym, ap}
use mathlib.Core.Bool.{Bool}
use lib.Dec.{leb}
use Rattle.stops.specs.Stops.{main_points}
use Rattle.stops.proofs.past_the_last.Goals as goal

pub returns-then-moving : goal.returns-then-moving
returns-then-moving c =
    let a = c.args in
    ap (λ (b : Bool). leb (main_points b a.points) a.p) (sym c.if-moving.true)

pub returns : goal.returns
returns c =
    let a = c.args in
    ap (λ (b : Bool). leb (main_points b a.points) a.p) (sym c.if-moving.false)
