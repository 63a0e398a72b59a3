-- `Chart::centre_wrong` meets its contract: each centre in its turn. Assumes nothing.
use Rattle.std.proofs.Common.{not, sym, ap, ◌∙◌}
use Rattle.attributes.specs.Records.{centre_wrong}
use Rattle.attributes.proofs.Chart.centre_wrong.Goals as goal

pub returns-in-Computed : goal.returns-in-Computed
unfolding centre_wrong
returns-in-Computed g c =
    sym (ap (centre_wrong g.S.Size.kind.allowed) c.in-Computed.is)

pub returns-in-Given : goal.returns-in-Given
unfolding centre_wrong
returns-in-Given g c =
    ap not c.allows.ensures ∙ sym (ap (centre_wrong g.S.Size.kind.allowed) c.in-Given.is)
