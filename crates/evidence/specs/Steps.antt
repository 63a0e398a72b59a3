-- What the parts of evidence find. Nothing here has to be believed: the proofs tie it to Evidence.antt. Definitions only.
use Rattle.std.specs.Prelude.{Bool, not, ◌&&◌, List, ℕ, Float, length}
use Rattle.sets.specs.declared.Test.{Test}
use Rattle.stops.specs.Cuts.{unbroken}
use Rattle.rules.specs.declared.Limits.{Limits}
use Rattle.rules.specs.Lines.{width_wrong, lines_of}
use Rattle.rules.specs.Tests.{shows}
use Rattle.floats.specs.Finite.{all_finite}
use Rattle.rules.specs.Finite.{finite_limits}
use Rattle.rules.specs.Marking.{newest_first}

-- the width mode is one, the values of a window and the limits are finite, and it shows the pattern
abbrev pub shows_alone : Limits → ℕ → Test → List Float → Bool
shows_alone limits width t part =
    not (width_wrong width)
    && (finite_limits limits && (all_finite part && shows t (lines_of width limits) (newest_first unbroken part (length part))))
