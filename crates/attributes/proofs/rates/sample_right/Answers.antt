-- `rates::sample_right` meets its contract: none of the two tests applies. Assumes nothing.
use Rattle.std.proofs.Common.{Bool, not, ◌||◌, ap, ◌∙◌}
use Rattle.attributes.specs.Kinds.{too_large}
use Rattle.attributes.proofs.Samples.{right-U}
use Rattle.attributes.proofs.rates.sample_right.Goals as goal

pub returns : goal.returns
returns c =
    let args = c.args in
    ap (λ (b : Bool). not (too_large args.damaged || not b)) c.allowed-none.ensures ∙ right-U args.damaged args.units
