-- `stops::wrong` meets its contract: one position after the other, each behind the last. Assumes nothing.
use mathlib.Core.Path.{◌≡◌, sym, ap, ◌∙◌}
use mathlib.Core.Bool.{Bool, ◌||◌}
use Prim.Native.Nat.{◌+◌}
use lib.Dec.{leb}
use lib.ListN.{drop, get_or}
use Rattle.stops.specs.Stops.{stops_wrong, main_points}
use Rattle.stops.proofs.Rising.{wrong_from, wrong-all, wrong-next, wrong-none}
use Rattle.stops.proofs.wrong.Goals.{After-past_the_last}
use Rattle.stops.proofs.wrong.Goals as goal

-- what is found from a position on: what its own test finds, or what is found behind it
from-here : (c : After-past_the_last) →
    let a = c.args in
    let p = get_or a.stops.now c.loop-p.p-index 0 in
    let points = main_points a.moving a.points in
    (((leb p c.loop-p.last || c.past_the_last.result) || wrong_from points p (drop (c.loop-p.p-index + 1) a.stops.now)) ≡ stops_wrong points a.stops.now)
from-here c =
    let a = c.args in
    let stops = a.stops.now in
    let i = c.loop-p.p-index in
    let p = get_or stops i 0 in
    let points = main_points a.moving a.points in
    ap (λ (b : Bool). (leb p c.loop-p.last || b) || wrong_from points p (drop (i + 1) stops)) c.past_the_last.ensures
    ∙ sym (wrong-next points stops i c.loop-p.last c.loop-p-test.true)
    ∙ c.loop-p.invariant

pub returns-then-p-last : goal.returns-then-p-last
returns-then-p-last c =
    let a = c.args in
    let p = get_or a.stops.now c.loop-p.p-index 0 in
    ap (λ (b : Bool). b || wrong_from (main_points a.moving a.points) p (drop (c.loop-p.p-index + 1) a.stops.now)) (sym c.if-p-last.true) ∙ from-here (goal.at.returns-then-p-last c).After-past_the_last

pub loop-p-preserved : goal.loop-p-preserved
loop-p-preserved c =
    let a = c.args in
    let p = get_or a.stops.now c.loop-p.p-index 0 in
    ap (λ (b : Bool). b || wrong_from (main_points a.moving a.points) p (drop (c.loop-p.p-index + 1) a.stops.now)) (sym c.if-p-last.false) ∙ from-here (goal.at.loop-p-preserved c).After-past_the_last

pub returns : goal.returns
returns c =
    let a = c.args in
    sym (wrong-none (main_points a.moving a.points) a.stops.now c.loop-p.p-index c.loop-p.last c.loop-p-test.false) ∙ c.loop-p.invariant

pub loop-p-init : goal.loop-p-init
loop-p-init c =
    wrong-all _ _
