-- Reading the tests of a position off columns. A column says of one signal, at each of the values that end there, newest first, whether it
-- is given; a test is judged by two columns, one for each way, or twice the same. Any engine of marking that has the columns has the
-- tests. Nothing here has to be believed: proofs/Columns.antt ties it to Marking.antt. Definitions only.
use Rattle.std.specs.Prelude.{Bool, true, false, ◌&&◌, ◌||◌, ◌≡◌, List, [], ◌∷◌, map, ℕ, zero, suc, ◌≤◌, leb, Float, length, take}
use Rattle.std.specs.Float.Ieee.{le}
use Rattle.laws.specs.Bools.{every, count}
use Rattle.sets.specs.declared.Test.{Test}
use Rattle.sets.specs.declared.Test.TheVariants.{BeyondLimits, NineOneSide, SixTrend, FourteenAlternating, TwoOfThreeBeyond2Sigma, FourOfFiveBeyond1Sigma, FifteenWithin1Sigma, EightBeyond1Sigma, EightOneSide}
use Rattle.sets.specs.Sets.{tests, set_of}
use Rattle.rules.specs.declared.Lines.{Lines}
use Rattle.rules.specs.Tests.{over, under, rise, fall, steps, window}

-- ---- signals

pub data Signal : Type 0 where
  Outside : Signal
  OverCentre : Signal
  UnderCentre : Signal
  Rising : Signal
  Falling : Signal
  OverOne : Signal
  UnderOne : Signal
  OverTwo : Signal
  UnderTwo : Signal
  InsideOne : Signal
  OutsideOne : Signal

-- a signal at each value of a list that is newest first; the oldest value has none that speaks of the step to it
unfoldable pub signs : Lines → Signal → List Float → List Bool
signs l Outside past = map (λ v. over l.ucl v || under l.lcl v) past
signs l OverCentre past = map (over l.cl) past
signs l UnderCentre past = map (under l.cl) past
signs l Rising past = steps rise past
signs l Falling past = steps fall past
signs l OverOne past = map (over l.above1) past
signs l UnderOne past = map (under l.below1) past
signs l OverTwo past = map (over l.above2) past
signs l UnderTwo past = map (under l.below2) past
signs l InsideOne past = map (λ v. le l.below1 v && le v l.above1) past
signs l OutsideOne past = map (λ v. over l.above1 v || under l.below1 v) past

-- bs begins with xs, or with the first fifteen of them; what stands behind them is free
abbrev pub Begins : List Bool → List Bool → Type 0
Begins xs bs = (n : ℕ) → n ≤ 15 → n ≤ length xs → take n bs ≡ take n xs

-- bs is the column of a signal: it begins with the signs of the newest values, as many as there are, up to fifteen
abbrev pub Column : Lines → List Float → Signal → List Bool → Type 0
Column l past s bs = Begins (signs l s past) bs

-- ---- how two columns are judged

-- all of the first n
abbrev pub first : ℕ → List Bool → Bool
first n bs = every (take n bs)

-- at least k of the first n
abbrev pub some : ℕ → ℕ → List Bool → Bool
some k n bs = leb k (count (take n bs))

-- the first n by turns, the first of xs, the second of ys, and so on
unfoldable pub by_turns : ℕ → List Bool → List Bool → Bool
by_turns zero xs ys = true
by_turns (suc n) [] ys = false
by_turns (suc n) (x ∷ xs) [] = false
by_turns (suc n) (x ∷ xs) (y ∷ ys) = x && by_turns n ys xs

pub data Rule : Type 0 where
  AllOf : ℕ → Rule
  SomeOf : ℕ → ℕ → Rule
  InTurns : ℕ → Rule

-- by one column or by the other
unfoldable pub judge : Rule → List Bool → List Bool → Bool
judge (AllOf n) up down = first n up || first n down
judge (SomeOf k n) up down = some k n up || some k n down
judge (InTurns n) up down = by_turns n up down || by_turns n down up

-- ---- the table: the rule of each test, and its two signals

unfoldable pub rule_of : Test → Rule
rule_of BeyondLimits = AllOf 1
rule_of NineOneSide = AllOf 9
rule_of SixTrend = AllOf 5
rule_of FourteenAlternating = InTurns 13
rule_of TwoOfThreeBeyond2Sigma = SomeOf 2 3
rule_of FourOfFiveBeyond1Sigma = SomeOf 4 5
rule_of FifteenWithin1Sigma = AllOf 15
rule_of EightBeyond1Sigma = AllOf 8
rule_of EightOneSide = AllOf 8

unfoldable pub up_of : Test → Signal
up_of BeyondLimits = Outside
up_of NineOneSide = OverCentre
up_of SixTrend = Rising
up_of FourteenAlternating = Rising
up_of TwoOfThreeBeyond2Sigma = OverTwo
up_of FourOfFiveBeyond1Sigma = OverOne
up_of FifteenWithin1Sigma = InsideOne
up_of EightBeyond1Sigma = OutsideOne
up_of EightOneSide = OverCentre

unfoldable pub down_of : Test → Signal
down_of BeyondLimits = Outside
down_of NineOneSide = UnderCentre
down_of SixTrend = Falling
down_of FourteenAlternating = Falling
down_of TwoOfThreeBeyond2Sigma = UnderTwo
down_of FourOfFiveBeyond1Sigma = UnderOne
down_of FifteenWithin1Sigma = InsideOne
down_of EightBeyond1Sigma = OutsideOne
down_of EightOneSide = UnderCentre

-- ---- the tests of a position

-- what the columns of each test say, in the order of the tests' bits
unfoldable pub read_off : (Test → List Bool) → (Test → List Bool) → List Bool
read_off ups downs = map (λ t. judge (rule_of t) (ups t) (downs t)) tests

-- the tests whose window is within n
unfoldable pub fitting : ℕ → ℕ
fitting n = set_of (λ t. leb (window t) n)
