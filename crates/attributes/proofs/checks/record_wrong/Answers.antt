-- `checks::record_wrong` meets its contract. Assumes nothing.
use Rattle.std.proofs.Common.{refl}
use Rattle.attributes.specs.Records.{record_wrong}
use Rattle.attributes.proofs.checks.record_wrong.Goals as goal

pub returns : goal.returns
unfolding record_wrong
returns c =
    refl
