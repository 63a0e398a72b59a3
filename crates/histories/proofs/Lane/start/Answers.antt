-- `histories::Lane::start` meets its contract. Assumes nothing.
use mathlib.Core.Path.{refl}
use Rattle.histories.specs.Lanes.{fresh}
use Rattle.histories.proofs.Lane.start.Goals as goal

pub returns : goal.returns
unfolding fresh
returns c =
    refl
