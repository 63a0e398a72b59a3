-- Values taken one after the other, for what is proved of them (02, R-3: "after any values from a fresh start"). Definitions only.
use Rattle.std.specs.Prelude.{cond, List, [], ◌∷◌, ℕ, zero, suc, eqb, Float, get_or}
use Rattle.std.specs.Float.{nan}
use Rattle.rules.specs.declared.Limits.{Limits}
use Rattle.rules.specs.declared.Lines.{Lines}
use Rattle.rules.specs.Terms.{Terms, alone}
use Rattle.rules.specs.Marking.{cuts_of, refusal}
use Rattle.histories.specs.declared.Lane.{Lane}
use Rattle.histories.specs.Lanes.{after, fresh}
use Rattle.histories.specs.Taking.{Outcome, take_value}

-- the lane after these values, newest first, from a fresh start
unfoldable pub fed : Lines → List Float → Lane
fed l [] = fresh
fed l (v ∷ past) = after l (fed l past) v

-- ---- calls under one and the same limits and width mode, newest first, each with a set and a value

-- the lane after them, from a fresh start
unfoldable pub called : Limits → ℕ → List (ℕ × Float) → Lane
called limits width [] = fresh
called limits width (c ∷ calls) = (take_value limits width c.0 (called limits width calls) c.1).2

-- the values of those that were not refused
unfoldable pub accepted : Limits → ℕ → List (ℕ × Float) → List Float
accepted limits width [] = []
accepted limits width (c ∷ calls) =
    cond (eqb (refusal (alone limits width) c.0 (c.1 ∷ [])) 0) (c.1 ∷ accepted limits width calls) (accepted limits width calls)

-- ---- a series given value by value, with a fresh start at each cut

-- what is answered to the value at position i, where the lane was this one after the value before it
abbrev pub outcome_from : Terms → ℕ → List Float → ℕ → Lane → Outcome
outcome_from terms set values i lane = take_value terms.limits terms.width set (cond (cuts_of terms i) fresh lane) (get_or values i nan)

-- the lane after the first n values
unfoldable pub lane_after : Terms → ℕ → List Float → ℕ → Lane
lane_after terms set values zero = fresh
lane_after terms set values (suc i) = (outcome_from terms set values i (lane_after terms set values i)).2

-- what is answered to the value at position i
abbrev pub outcome_at : Terms → ℕ → List Float → ℕ → Outcome
outcome_at terms set values i = outcome_from terms set values i (lane_after terms set values i)
