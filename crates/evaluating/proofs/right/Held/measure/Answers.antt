-- `Held::measure` meets its contract: the limits are those of the series as they stand at the front of the slices. Assumes nothing.
use Rattle.std.proofs.Common.{length, ◌∙◌, ap₂}
use lib.Ieee.{Float}
use Rattle.charts.proofs.Held.{own_of}
use Rattle.evaluating.specs.Asked.{asked}
use Rattle.evaluating.specs.Steps.{limits_from}
use Rattle.evaluating.proofs.Measures.{front-series, from-series}
use Rattle.evaluating.proofs.right.Held.measure.Goals as goal

pub invariant_of-right : goal.invariant_of-right
invariant_of-right c =
    record { own = own_of c.args.self.chart (length c.args.self.values.now) c.args.self.held }

pub returns-clause-limits : goal.returns-clause-limits
returns-clause-limits c =
    let a = asked c.args.self.chart c.args.self.values.now in
    let main = front-series a 0 _ c.args.main.now _ c.lengths_in-points.ensures.main c.fill.ensures in
    let dispersion = front-series a 1 _ c.args.dispersion.now _ c.lengths_in-points.ensures.dispersion c.fill-2.ensures in
    c.limits_from.ensures ∙ ap₂ (λ (m d : Float). limits_from c.args.self.chart m d) c.mean_of.ensures c.mean_of-2.ensures ∙ from-series a main dispersion
