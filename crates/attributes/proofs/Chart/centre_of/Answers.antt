-- `Chart::centre_of` meets its contract: each centre in its turn. Assumes nothing.
use Rattle.std.proofs.Common.{ap, ◌∙◌, ap₂}
use lib.Ieee.{binary64, div}
use Rattle.floats.specs.Values.{whole}
use Rattle.attributes.specs.Evaluating.{chart_centre}
use Rattle.attributes.proofs.Held.{small-front, computed-centre, given-centre}
use Rattle.attributes.proofs.Totalling.{small-part}
use Rattle.attributes.proofs.Chart.centre_of.Goals as goal

pub total-damaged-requires : goal.total-damaged-requires
total-damaged-requires g c =
    let fine = c.requires in
    small-part c.args.self.count c.args.counts.now fine.few fine.in-counts (small-front _ _ fine.in-counts fine.counts-fit)

pub returns-in-Given : goal.returns-in-Given
unfolding chart_centre
returns-in-Given g c =
    given-centre _ _ _ c.in-Given.is

pub returns-in-Computed : goal.returns-in-Computed
unfolding chart_centre
returns-in-Computed g c =
    ap₂ (div binary64) (c.nearest_u64_to_f64.ensures ∙ ap whole c.total-damaged.ensures) c.total.ensures ∙ computed-centre _ _ c.in-Computed.is
