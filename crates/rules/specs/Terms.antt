-- What a series is asked under: its limits (01, 'The nine tests') and the width mode by which the zone lines are made from them (02, R-5), the
-- stops of its main series, and whether it is itself that of the moving ranges (02, R-1). Definitions only.
use Rattle.std.specs.Prelude.{Bool, false, List, [], ℕ}
use Rattle.rules.specs.declared.Limits.{Limits}
use Rattle.rules.specs.declared.Terms.{Terms as Lent}

pub record Terms : Type 0 where
  pub limits : Limits
  pub width : ℕ
  pub stops : List ℕ
  pub moving : Bool

abbrev pub under : Limits → ℕ → List ℕ → Bool → Terms
under l width stops moving = record { limits = l; width = width; stops = stops; moving = moving }

-- values by themselves: with no stops, where it does not matter of which kind the series is
abbrev pub alone : Limits → ℕ → Terms
alone l width = under l width [] false

-- and in the default mode
abbrev pub unstopped : Limits → Terms
unstopped l = alone l 0

-- what a caller lends
abbrev pub told : Lent → Terms
told lent = under lent.limits lent.width lent.stops.now lent.moving
