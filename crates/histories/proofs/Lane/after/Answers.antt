-- `histories::Lane::after` meets its contract: each history is pushed what its signal says of the value. Assumes nothing.
use mathlib.Core.Path.{refl}
use Rattle.rules.specs.Tests.{steps}
use Rattle.rules.specs.Columns.{signs}
use Rattle.histories.specs.Lanes.{kept, after}
use Rattle.histories.proofs.Lane.after.Goals as goal

pub returns : goal.returns
unfolding after kept signs steps
returns c =
    rw (
      c.push.ensures,
      c.push-2.ensures,
      c.push-3.ensures,
      c.push-4.ensures,
      c.push-5.ensures,
      c.push-6.ensures,
      c.push-7.ensures,
      c.push-8.ensures,
      c.push-9.ensures,
      c.push-10.ensures,
      c.push-11.ensures,
      c.hold.ensures,
    )
    refl
