-- `Size::total` of parcels meets its contract. Assumes nothing.
use Rattle.std.proofs.Common.{ap, ◌∙◌}
use Rattle.floats.specs.Values.{whole}
use Rattle.attributes.proofs.Held.{inspected}
use Rattle.attributes.proofs.proportions.U64Size.total.Goals as goal

pub total-requires : goal.total-requires
total-requires c =
    (c.requires.0, λ i k. inspected _ (c.requires.1 i k))

pub returns : goal.returns
returns c =
    c.nearest_u64_to_f64.ensures ∙ ap whole c.total.ensures
