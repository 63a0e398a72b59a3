-- The nine tests by their bits, and rule sets (01, 'The nine tests'). Definitions only.
use Rattle.std.specs.Prelude.{Bool, cond, List, [], ◌∷◌, map, ℕ, Option, Some, None, ltb, length, get_or}
use Rattle.laws.specs.Bits.{has_bit, from_bits}
use Rattle.sets.specs.declared.Test.{Test}
use Rattle.sets.specs.declared.Test.TheVariants.{BeyondLimits, NineOneSide, SixTrend, FourteenAlternating, TwoOfThreeBeyond2Sigma, FourOfFiveBeyond1Sigma, FifteenWithin1Sigma, EightBeyond1Sigma, EightOneSide}

-- the first column of 01's table
unfoldable pub bit_of : Test → ℕ
bit_of BeyondLimits = 0
bit_of NineOneSide = 1
bit_of SixTrend = 2
bit_of FourteenAlternating = 3
bit_of TwoOfThreeBeyond2Sigma = 4
bit_of FourOfFiveBeyond1Sigma = 5
bit_of FifteenWithin1Sigma = 6
bit_of EightBeyond1Sigma = 7
bit_of EightOneSide = 8

-- its rows, in the order of their bits
unfoldable pub tests : List Test
tests =
    BeyondLimits
    ∷ NineOneSide
    ∷ SixTrend
    ∷ FourteenAlternating
    ∷ TwoOfThreeBeyond2Sigma
    ∷ FourOfFiveBeyond1Sigma
    ∷ FifteenWithin1Sigma
    ∷ EightBeyond1Sigma
    ∷ EightOneSide
    ∷ []

-- the test of a bit number that has one
unfoldable pub test_of : ℕ → Test
test_of bit = get_or tests bit BeyondLimits

-- that test, or nothing where the number has none
unfoldable pub test_at : ℕ → Option Test
test_at bit = cond (ltb bit (length tests)) (Some (test_of bit)) None

-- "A rule set is a number 0 to 511": that of all nine tests is the largest
abbrev pub largest : ℕ
largest = 511

abbrev pub too_large : ℕ → Bool
too_large set = ltb largest set

-- the set of the number `set` has the test t
unfoldable pub has : ℕ → Test → Bool
has set t = has_bit set (bit_of t)

-- the number of the set that has just the tests of which p says yes. The marks of a point are such a number too.
unfoldable pub set_of : (Test → Bool) → ℕ
set_of p = from_bits (map p tests)
