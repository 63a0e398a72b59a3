-- What taking a value answers (02, R-3 and R-5). Definitions only.
use Rattle.std.specs.Prelude.{Bool, ◌&&◌, [], ◌∷◌, ℕ, leb, Float, Result}
use Rattle.laws.specs.Refusals.{first_of, each}
use Rattle.numbers.specs.Numbers as numbers
use Rattle.sets.specs.declared.Test.{Test}
use Rattle.sets.specs.Sets.{has, set_of}
use Rattle.rules.specs.declared.Limits.{Limits}
use Rattle.rules.specs.declared.Refusal.{Refusal}
use Rattle.rules.specs.Terms.{alone}
use Rattle.rules.specs.Lines.{lines_of}
use Rattle.rules.specs.Tests.{window}
use Rattle.rules.specs.Marking.{number, ahead}
use Rattle.rules.specs.Columns.{judge, rule_of, up_of, down_of}
use Rattle.histories.specs.declared.Lane.{Lane}
use Rattle.histories.specs.Lanes.{kept, column, after}

-- ---- the marks of a lane

-- the histories of the test's two signals show its pattern
abbrev pub read : Lane → Test → Bool
read lane t = judge (rule_of t) (column (kept lane (up_of t))) (column (kept lane (down_of t)))

-- and its window is within the values seen
unfoldable pub shown : Lane → Test → Bool
shown lane t = leb (window t) lane.seen && read lane t

-- the tests that the set has and that are shown
unfoldable pub marks_at : ℕ → Lane → ℕ
marks_at set lane = set_of (λ t. has set t && shown lane t)

-- ---- what taking a value answers

-- 01's number and the marks, which are zero where it refuses
abbrev pub answered : Result ℕ Refusal → ℕ × ℕ
answered = numbers.answered number (λ marks. marks) 0

-- the same with the lane afterwards
abbrev pub Outcome : Type 0
Outcome = ℕ × ℕ × Lane

abbrev pub taken : Result ℕ Refusal → Lane → Outcome
taken answer lane = ((answered answer).0, (answered answer).1, lane)

-- a refusal: "a refused value changes nothing"
abbrev pub unchanged : Lane → ℕ → Outcome
unchanged lane n = (n, 0, lane)

-- the lane after the value, and the marks that it shows
abbrev pub marked : ℕ → Lane → Outcome
marked set lane = (0, marks_at set lane, lane)

-- "Refusals: 3 and 4, in marking's order", and 21 "directly after 4" (R-5): marking's own of the series of this value alone, to which 5 and
-- 15 do not apply
unfoldable pub take_value : Limits → ℕ → ℕ → Lane → Float → Outcome
take_value limits width set lane v =
    first_of
    (each (unchanged lane) (ahead (alone limits width) set (v ∷ [])))
    (marked set (after (lines_of width limits) lane v))
