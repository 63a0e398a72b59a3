-- `rules::cuts::part` meets its contract: one stop after the other. Assumes nothing.
use mathlib.Core.Path.{refl, sym, ap, ◌∙◌}
use Prim.Native.Nat.{◌+◌}
use lib.ListN.{drop}
use Rattle.stops.specs.Cuts.{by_stops}
use Rattle.rules.specs.Cuts.{cut_marks}
use Rattle.stops.proofs.Cuts.{stops-next, stops-none}
use Rattle.rules.proofs.cuts.part.Goals as goal

pub loop-p-preserved : goal.loop-p-preserved
loop-p-preserved c =
    let a = c.args in
    let stops = a.stops.now in
    let i = c.loop-p.p-index in (
      c.cut_by_stop.auto.marks ∙ c.loop-p.invariant.0,
      ap (by_stops cut_marks (drop (i + 1) stops) a.moving) c.cut_by_stop.ensures
          ∙ sym (stops-next cut_marks stops a.moving c.loop-p.marks i c.loop-p-test.true)
          ∙ c.loop-p.invariant.1,
    )

pub returns : goal.returns
returns c =
    let a = c.args in
    sym (stops-none cut_marks a.stops.now a.moving c.loop-p.marks c.loop-p.p-index c.loop-p-test.false) ∙ c.loop-p.invariant.1

pub loop-p-init : goal.loop-p-init
loop-p-init c =
    (refl, refl)
