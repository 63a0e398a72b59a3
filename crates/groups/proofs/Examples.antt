-- Worked examples, computed: the number of 01's flow file (8.0 as bits), and the ends of 64 bits. Assumes nothing.
use mathlib.Core.Path.{◌≡◌, refl}
use mathlib.Core.List.{[], ◌∷◌}
use Rattle.groups.specs.Groups.{groups, number_at, number_is, fault_is}

eight : groups 0x4020000000000000 ≡ 0x80 ∷ 0x80 ∷ 0x80 ∷ 0x80 ∷ 0x80 ∷ 0x80 ∷ 0x80 ∷ 0x90 ∷ 0x40 ∷ []
unfolding groups
eight = refl

-- the largest number, and one more: ten groups each
largest : number_at (0xff ∷ 0xff ∷ 0xff ∷ 0xff ∷ 0xff ∷ 0xff ∷ 0xff ∷ 0xff ∷ 0xff ∷ 0x01 ∷ []) 0 ≡ number_is 0xffffffffffffffff 10
unfolding number_at
largest = refl

too_large : number_at (7 ∷ 0x80 ∷ 0x80 ∷ 0x80 ∷ 0x80 ∷ 0x80 ∷ 0x80 ∷ 0x80 ∷ 0x80 ∷ 0x80 ∷ 0x02 ∷ []) 1 ≡ fault_is 1
unfolding number_at
too_large = refl

-- the bytes end inside a number, and before it
cut : (number_at (7 ∷ 0x80 ∷ []) 1 ≡ fault_is 1) × (number_at (7 ∷ []) 1 ≡ fault_is 1)
unfolding number_at
cut = (refl, refl)
