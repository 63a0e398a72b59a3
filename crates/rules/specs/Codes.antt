-- The engine of marking, on numbers: the code of a value has, for each test, a bit for each of its two signals; the columns of a position
-- are the bits of the fifteen codes that end there. Nothing here has to be believed: the proofs tie it to Marking.antt. Definitions only.
use Rattle.std.specs.Prelude.{Bool, not, ◌&&◌, ◌||◌, cond, List, [], ◌∷◌, map, ◌≡◌, ℕ, zero, suc, ◌+◌, ◌<◌, eqb, ltb, Float, length, get_or}
use Rattle.std.specs.Int.Bits.{bit_and, bit_or}
use Rattle.std.specs.Float.{nan}
use Rattle.std.specs.Float.Ieee.{le}
use Rattle.laws.specs.Bits.{has_bit, from_bits}
use Rattle.sets.specs.declared.Test.{Test}
use Rattle.sets.specs.declared.Test.TheVariants.{BeyondLimits, NineOneSide, SixTrend, FourteenAlternating, TwoOfThreeBeyond2Sigma, FourOfFiveBeyond1Sigma, FifteenWithin1Sigma, EightBeyond1Sigma, EightOneSide}
use Rattle.sets.specs.Sets.{bit_of}
use Rattle.rules.specs.declared.Lines.{Lines}
use Rattle.rules.specs.Tests.{over, under, rise, fall}
use Rattle.rules.specs.Columns.{read_off}

-- ---- the code of a value

-- k where b says so, else nothing
abbrev pub picked : Bool → ℕ → ℕ
picked b k = cond b k 0

-- `up` for a value over the line `high`, `down` for one under the line `low`
unfoldable pub zone_code : Float → Float → ℕ → ℕ → Float → ℕ
zone_code high low up down v = bit_or (picked (over high v) up) (picked (under low v) down)

-- for a value that is neither
unfoldable pub inside_code : Float → Float → Float → ℕ
inside_code high low v = picked (le low v && le v high) 64

-- for a step up, for a step down
unfoldable pub step_code : Float → Float → ℕ
step_code u v = bit_or (picked (rise u v) 12) (picked (fall u v) 3072)

-- What a family makes of entry i of some values and of what comes before it, where it is needed. Before them comes u: what comes before
-- entry i is entry i of the longer list.
abbrev pub family_at : (Float → Float → ℕ) → Bool → Float → List Float → ℕ → ℕ
family_at code need u vs i = picked need (code (get_or (u ∷ vs) i nan) (get_or vs i nan))

-- the set has a test of those of the number `family`
abbrev pub asks : ℕ → ℕ → Bool
asks set family = not (eqb (bit_and set family) 0)

-- the first n codes are f of their place
pub record Coded (f : ℕ → ℕ) (n : ℕ) (cs : List ℕ) : Type 0 where
  pub at : (i : ℕ) → i < n → get_or cs i 0 ≡ f i

-- f of its place was put into each of the first n codes, which were `old`
pub record Added (f : ℕ → ℕ) (n : ℕ) (old now : List ℕ) : Type 0 where
  pub at : (i : ℕ) → get_or now i 0 ≡ bit_or (get_or old i 0) (picked (ltb i n) (f i))

-- room for codes in which no bit is set
pub record Clear (cs : List ℕ) : Type 0 where
  pub at : (i : ℕ) → get_or cs i 0 ≡ 0

-- The code of the value v after u, of the families that are asked for: the limits, the centre line, two sigma, one sigma, within one sigma,
-- the steps. The signal of one way has the bit of its test, that of the other way the bit eight places above; eight on one side have bits
-- 8 and 14.
unfoldable pub code_of : (ℕ → Bool) → Lines → Float → Float → ℕ
code_of asked l u v =
    bit_or (bit_or (bit_or (bit_or (bit_or (bit_or 0
    (picked (asked 1) (zone_code l.ucl l.lcl 1 1 v)))
    (picked (asked 258) (zone_code l.cl l.cl 258 16896 v)))
    (picked (asked 16) (zone_code l.above2 l.below2 16 4096 v)))
    (picked (asked 160) (zone_code l.above1 l.below1 160 8320 v)))
    (picked (asked 64) (inside_code l.above1 l.below1 v)))
    (picked (asked 12) (step_code u v))

-- that of entry i
abbrev pub code_at : ℕ → Lines → Float → List Float → ℕ → ℕ
code_at set l u vs i = code_of (asks set) l (get_or (u ∷ vs) i nan) (get_or vs i nan)

-- the first codes are those of a series; its first value comes after itself, so that it neither rises nor falls
abbrev pub CodesOf : ℕ → Lines → List Float → List ℕ → Type 0
CodesOf set l values cs = Coded (code_at set l (get_or values 0 nan) values) (length values) cs

-- ---- the tests of a position

-- the n entries from i on, the last of them first
abbrev pub last_of : List ℕ → ℕ → ℕ → List ℕ
last_of cs i zero = []
last_of cs i (suc zero) = get_or cs i 0 ∷ []
last_of cs i (suc (suc n)) = get_or cs (i + suc n) 0 ∷ last_of cs i (suc n)

-- what bit s of each code says
abbrev pub column : ℕ → List ℕ → List Bool
column s cs = map (λ c. has_bit c s) cs

-- the bit of a test's second signal; its first has the bit of the test
unfoldable pub down_bit : Test → ℕ
down_bit BeyondLimits = 0
down_bit NineOneSide = 9
down_bit SixTrend = 10
down_bit FourteenAlternating = 11
down_bit TwoOfThreeBeyond2Sigma = 12
down_bit FourOfFiveBeyond1Sigma = 13
down_bit FifteenWithin1Sigma = 6
down_bit EightBeyond1Sigma = 7
down_bit EightOneSide = 14

-- the nine tests by the bits of what all, some and every other of the codes have in common
abbrev pub packed_bits : ℕ → ℕ → ℕ → ℕ → ℕ → ℕ → ℕ → ℕ → List Bool
packed_bits c0 all5 all8 all9 all15 turns two four =
    has_bit c0 0
    ∷ (has_bit all9 1 || has_bit all9 9)
    ∷ (has_bit all5 2 || has_bit all5 10)
    ∷ has_bit turns 3
    ∷ (has_bit two 4 || has_bit two 12)
    ∷ (has_bit four 5 || has_bit four 13)
    ∷ has_bit all15 6
    ∷ has_bit all8 7
    ∷ (has_bit all8 8 || has_bit all8 14)
    ∷ []

-- the nine tests, read off the codes that end at a position, newest first
unfoldable pub read_codes : List ℕ → List Bool
read_codes cs = read_off (λ t. column (bit_of t) cs) (λ t. column (down_bit t) cs)

-- the marks of the set that are read off the fifteen codes from i on
unfoldable pub marks_read : ℕ → List ℕ → ℕ → ℕ
marks_read set cs i = bit_and set (from_bits (read_codes (last_of cs i 15)))

-- the tests whose window is within i + 1, for the first fourteen positions
unfoldable pub fits_at : ℕ → ℕ
fits_at i = get_or (1 ∷ 1 ∷ 17 ∷ 17 ∷ 49 ∷ 53 ∷ 53 ∷ 437 ∷ 439 ∷ 439 ∷ 439 ∷ 439 ∷ 439 ∷ 447 ∷ []) i 0
