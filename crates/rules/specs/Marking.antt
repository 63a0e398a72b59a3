-- What a mark means, and what marking answers and leaves in the lent slice (01, 'The nine tests', 'Numbers a call may give back'; 02, R-1
-- and R-5). Definitions only.
use Rattle.std.specs.Prelude.{Bool, not, ◌&&◌, cond, List, [], ◌∷◌, ◌++◌, ℕ, zero, suc, leb, ltb, eqb, Float, length, take, get_or, Result}
use Rattle.std.specs.Float.{nan}
use Rattle.laws.specs.Refusals.{first_of}
use Rattle.laws.specs.Lists.{tabulate}
use Rattle.laws.specs.Front.{at_front}
use Rattle.numbers.specs.Numbers as numbers
use Rattle.stops.specs.Stops.{cut_at, stops_wrong, main_points}
use Rattle.sets.specs.declared.Test.{Test}
use Rattle.sets.specs.Sets.{has, set_of, too_large}
use Rattle.rules.specs.declared.Lines.{Lines}
use Rattle.rules.specs.declared.Refusal.{Refusal}
use Rattle.rules.specs.declared.Refusal.TheVariants.{TooMany, Stops, SetTooLarge, WidthMode, NotFinite, TooShort}
use Rattle.rules.specs.Terms.{Terms}
use Rattle.rules.specs.Lines.{width_wrong, lines_of}
use Rattle.rules.specs.Tests.{window, shows}
use Rattle.floats.specs.Finite.{all_finite}
use Rattle.rules.specs.Finite.{finite_limits}

-- ---- marks

-- The first n values, newest first, back to the last cut. Here alone is said which values stand next to each other: those next to each
-- other in the series with no cut between them.
unfoldable pub newest_first : (ℕ → Bool) → List Float → ℕ → List Float
newest_first cut values zero = []
newest_first cut values (suc i) = get_or values i nan ∷ cond (cut i) [] (newest_first cut values i)

-- the window of the test that ends at the newest value fits, and shows the test's pattern
unfoldable pub stands : Lines → List Float → Test → Bool
stands l past t = leb (window t) (length past) && shows t l (take (window t) past)

-- the marks at position i: the tests that the set has and that stand there
unfoldable pub marks_at : (ℕ → Bool) → Lines → ℕ → List Float → ℕ → ℕ
marks_at cut l set values i = set_of (λ t. has set t && stands l (newest_first cut values (suc i)) t)

-- those of every position of the series
abbrev pub marks_by : (ℕ → Bool) → Lines → ℕ → List Float → List ℕ
marks_by cut l set values = tabulate (marks_at cut l set values) (length values)

-- where the stops cut it
abbrev pub cuts_of : Terms → ℕ → Bool
cuts_of terms = cut_at terms.stops terms.moving

-- the lines that it is judged by
abbrev pub lines_for : Terms → Lines
lines_for terms = lines_of terms.width terms.limits

unfoldable pub marks_of : Terms → ℕ → List Float → List ℕ
marks_of terms set values = marks_by (cuts_of terms) (lines_for terms) set values

-- ---- what marking answers

-- the most values of a series
abbrev pub most : ℕ
most = 4096

-- 01's number of each refusal, and of each answer
abbrev pub number : Refusal → ℕ
number TooMany = 5
number Stops = 15
number SetTooLarge = 4
number WidthMode = 21
number NotFinite = 3
number TooShort = 6

abbrev pub numbered : {A : Type 0} → Result A Refusal → ℕ
numbered = numbers.numbered number

-- What marking, checking and writing refuse first: 5, 15, 4, 21, 3 for limits, 3 for values.
unfoldable pub ahead : Terms → ℕ → List Float → List (Bool × ℕ)
ahead terms set values =
    (ltb most (length values), 5)
    ∷ (stops_wrong (main_points terms.moving (length values)) terms.stops, 15)
    ∷ (too_large set, 4)
    ∷ (width_wrong terms.width, 21)
    ∷ (not (finite_limits terms.limits), 3)
    ∷ (not (all_finite values), 3)
    ∷ []

-- the number of the first that applies, or 0
abbrev pub refusal : Terms → ℕ → List Float → ℕ
refusal terms set values = first_of (ahead terms set values) 0

-- Marking: these, then 6. `room` is how many entries the lent slice has.
unfoldable pub answer_of : Terms → ℕ → List Float → ℕ → ℕ
answer_of terms set values room = first_of (ahead terms set values ++ ((ltb room (length values), 6) ∷ [])) 0

-- the slice afterwards: the marks at its front where nothing was refused, else as it came
unfoldable pub marks_after : Terms → ℕ → List Float → List ℕ → List ℕ
marks_after terms set values old = cond (eqb (answer_of terms set values (length old)) 0) (at_front (marks_of terms set values) old) old
