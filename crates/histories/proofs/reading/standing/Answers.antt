-- `histories::reading::standing` meets its contract: a test by its rule and its two histories. Assumes nothing.
use mathlib.Core.Path.{refl}
use Rattle.sets.specs.Sets.{tests, set_of}
use Rattle.rules.specs.Columns.{rule_of, up_of, down_of}
use Rattle.histories.specs.Lanes.{kept}
use Rattle.histories.proofs.reading.standing.Goals as goal

pub returns : goal.returns
unfolding set_of tests rule_of up_of down_of kept
returns c =
    rw (
      c.pack.ensures,
      c.all.ensures,
      c.all-2.ensures,
      c.all-3.ensures,
      c.by_turns.ensures,
      c.some.ensures,
      c.some-2.ensures,
      c.all-4.ensures,
      c.all-5.ensures,
      c.all-6.ensures,
    )
    refl
