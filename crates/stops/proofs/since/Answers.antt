-- `stops::since` meets its contract: one stop after the other. Assumes nothing.
use mathlib.Core.Path.{sym, ap, ◌∙◌}
use Prim.Native.Nat.{◌+◌}
use lib.ListN.{drop}
use Rattle.stops.specs.Cuts.{by_stops, nearer}
use Rattle.stops.proofs.Cuts.{stops-next, stops-none, since-stops}
use Rattle.stops.proofs.since.Goals as goal

pub loop-p-preserved : goal.loop-p-preserved
loop-p-preserved c =
    let a = c.args in
    let step = nearer a.at in
    let stops = a.stops.now in
    let i = c.loop-p.p-index in
    ap (by_stops step (drop (i + 1) stops) a.moving) c.after_stop-first.ensures
    ∙ sym (stops-next step stops a.moving c.loop-p.first i c.loop-p-test.true)
    ∙ c.loop-p.invariant

pub returns : goal.returns
returns c =
    let a = c.args in
    sym (stops-none (nearer a.at) a.stops.now a.moving c.loop-p.first c.loop-p.p-index c.loop-p-test.false)
    ∙ c.loop-p.invariant
    ∙ since-stops a.stops.now a.moving a.at
