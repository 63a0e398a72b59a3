-- The table of the nine tests: a window length and a pattern for each (01, 'The nine tests'). A window is newest first: its head is the
-- value at the position, and the value before it comes next. Definitions only.
use Rattle.std.specs.Prelude.{Bool, true, false, not, ◌&&◌, ◌||◌, cond, List, [], ◌∷◌, map, ℕ, leb, Float}
use Rattle.std.specs.Float.Ieee.{lt, le}
use Rattle.laws.specs.Bools.{every, count}
use Rattle.sets.specs.declared.Test.{Test}
use Rattle.sets.specs.declared.Test.TheVariants.{BeyondLimits, NineOneSide, SixTrend, FourteenAlternating, TwoOfThreeBeyond2Sigma, FourOfFiveBeyond1Sigma, FifteenWithin1Sigma, EightBeyond1Sigma, EightOneSide}
use Rattle.rules.specs.declared.Lines.{Lines}

-- ---- words of the table

-- v > x, and v < x
abbrev pub over : Float → Float → Bool
over x v = lt x v

abbrev pub under : Float → Float → Bool
under x v = lt v x

-- all of a window
abbrev pub all : (Float → Bool) → List Float → Bool
all p w = every (map p w)

-- at least n of a window
abbrev pub at_least : ℕ → (Float → Bool) → List Float → Bool
at_least n p w = leb n (count (map p w))

-- from u to v, which comes next, the series rises, or falls
abbrev pub rise : Float → Float → Bool
rise u v = lt u v

abbrev pub fall : Float → Float → Bool
fall u v = lt v u

-- what is said of each step of a window, newest first
unfoldable pub steps : (Float → Float → Bool) → List Float → List Bool
steps r [] = []
steps r (v ∷ []) = []
steps r (v ∷ u ∷ w) = r u v ∷ steps r (u ∷ w)

-- no step level, each opposite to the last; the newest is a rise, or a fall
unfoldable pub alternating : Bool → List Float → Bool
alternating up [] = true
alternating up (v ∷ []) = true
alternating up (v ∷ u ∷ w) = cond up (rise u v) (fall u v) && alternating (not up) (u ∷ w)

-- ---- the table

-- its third column
unfoldable pub window : Test → ℕ
window BeyondLimits = 1
window NineOneSide = 9
window SixTrend = 6
window FourteenAlternating = 14
window TwoOfThreeBeyond2Sigma = 3
window FourOfFiveBeyond1Sigma = 5
window FifteenWithin1Sigma = 15
window EightBeyond1Sigma = 8
window EightOneSide = 8

-- its fourth column: whether a window, of as many values as the test asks for, shows the pattern
unfoldable pub shows : Test → Lines → List Float → Bool
shows BeyondLimits l w = all (λ v. over l.ucl v || under l.lcl v) w
shows NineOneSide l w = all (over l.cl) w || all (under l.cl) w
shows SixTrend l w = every (steps rise w) || every (steps fall w)
shows FourteenAlternating l w = alternating true w || alternating false w
shows TwoOfThreeBeyond2Sigma l w = at_least 2 (over l.above2) w || at_least 2 (under l.below2) w
shows FourOfFiveBeyond1Sigma l w = at_least 4 (over l.above1) w || at_least 4 (under l.below1) w
shows FifteenWithin1Sigma l w = all (λ v. le l.below1 v && le v l.above1) w
shows EightBeyond1Sigma l w = all (λ v. over l.above1 v || under l.below1 v) w
shows EightOneSide l w = all (over l.cl) w || all (under l.cl) w
