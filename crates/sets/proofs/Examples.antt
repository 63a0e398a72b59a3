-- The examples in the comments of src/lib.rt, computed, and the ends of the range. Assumes nothing.
use mathlib.Core.Path.{◌≡◌, refl}
use mathlib.Core.Bool.{false}
use mathlib.Core.List.{[], ◌∷◌}
use Rattle.laws.specs.Bools.{count}
use Rattle.laws.specs.Bits.{has_bit, from_bits}
use Rattle.laws.specs.Refusals.{first_of}
use Rattle.sets.specs.declared.Test.TheVariants.{SixTrend, EightOneSide}
use Rattle.sets.specs.Sets.{bit_of, tests, has, set_of}
use Rattle.sets.specs.Calls.{with_test, without_test, has_test, how_many, same, set_named}

with-six : with_test 0 SixTrend ≡ (0, 4)
unfolding with_test first_of set_of from_bits has has_bit tests bit_of
with-six = refl

without-six : without_test 255 SixTrend ≡ (0, 251)
unfolding without_test first_of set_of from_bits has has_bit tests bit_of
without-six = refl

nelson-no-eight : has_test 255 EightOneSide ≡ (0, false)
unfolding has_test first_of has has_bit bit_of
nelson-no-eight = refl

counts : (how_many 305 ≡ (0, 4)) × (how_many 511 ≡ (0, 9)) × (how_many 512 ≡ (4, 0))
unfolding how_many first_of count has has_bit tests bit_of
counts = (refl, refl, refl)

-- N e l s o n, and no letter at all
capital : (set_named (78 ∷ 101 ∷ 108 ∷ 115 ∷ 111 ∷ 110 ∷ []) ≡ (13, 0)) × (set_named [] ≡ (13, 0))
unfolding set_named first_of same
capital = (refl, refl)
