-- What the checker makes of the sheet of 01's row 10, and form faults at their places, computed. Assumes nothing.
use Prim.Native.Nat.{ℕ}
use mathlib.Core.Path.{◌≡◌, refl}
use mathlib.Core.List.{List, [], ◌∷◌, ◌++◌}
use lib.ListN.{take}
use Rattle.laws.specs.Refusals.{first_of}
use Rattle.groups.specs.Groups.{number_at}
use Rattle.sheets.specs.Said.{fault, said, entries, said_from}
use Rattle.sheets.specs.Answers.{first_wrong, judged}

-- ---- the sheet of row 10: ten points, nelson

abbrev ten_marks : List ℕ
ten_marks = 0 ∷ 0 ∷ 0 ∷ 0 ∷ 32 ∷ 32 ∷ 32 ∷ 160 ∷ 162 ∷ 162 ∷ []

abbrev ten : List ℕ
ten =
    0x0a ∷ 0xff ∷ 0x01 ∷ 0x06 ∷ 0x04 ∷ 0x20 ∷ 0x00 ∷ 0x20 ∷ 0x00 ∷ 0x20
    ∷ 0x00 ∷ 0xa0 ∷ 0x01 ∷ 0x00 ∷ 0xa2 ∷ 0x01 ∷ 0x00 ∷ 0xa2 ∷ 0x01 ∷ []

ten-accepted : judged 255 ten_marks (said ten) ≡ (0, 0, 0, 0)
unfolding first_of first_wrong said_from entries number_at
ten-accepted = refl

-- another set, and the first wrong position with the right marks and the stated ones
ten-refused : (judged 511 ten_marks (said ten) ≡ (10, 0, 0, 0))
    × (judged 255 (0 ∷ 0 ∷ 4 ∷ 0 ∷ 32 ∷ 32 ∷ 32 ∷ 160 ∷ 2 ∷ 162 ∷ []) (said ten) ≡ (11, 2, 4, 0))
    × (judged 255 (0 ∷ 0 ∷ 0 ∷ 0 ∷ 32 ∷ 32 ∷ 32 ∷ 160 ∷ 2 ∷ 162 ∷ []) (said ten) ≡ (11, 8, 2, 162))
unfolding first_of first_wrong said_from entries number_at
ten-refused = (refl, refl, refl)

-- ---- form faults

-- the bytes end inside a number, before one, and not where they should
ends : (said (take 18 ten) ≡ fault 17) × (said (take 3 ten) ≡ fault 3) × (said (ten ++ (0x00 ∷ [])) ≡ fault 19)
unfolding said_from entries number_at
ends = (refl, refl, refl)

-- 4,097 points; the set 512; one marked point among none
heads : (said (0x81 ∷ 0x20 ∷ 0x01 ∷ 0x00 ∷ []) ≡ fault 0)
    × (said (0x00 ∷ 0x80 ∷ 0x04 ∷ 0x00 ∷ []) ≡ fault 1)
    × (said (0x00 ∷ 0x01 ∷ 0x01 ∷ 0x00 ∷ 0x01 ∷ []) ≡ fault 2)
unfolding said_from entries number_at
heads = (refl, refl, refl)

-- a skip just past the last point, and the largest of 64 bits
skips : (said (0x02 ∷ 0x01 ∷ 0x01 ∷ 0x02 ∷ 0x01 ∷ []) ≡ fault 3)
    × (said
    (0x02 ∷ 0x01 ∷ 0x01 ∷ 0xff ∷ 0xff ∷ 0xff ∷ 0xff ∷ 0xff ∷ 0xff ∷ 0xff ∷ 0xff ∷ 0xff ∷ 0x01 ∷ 0x01 ∷ []) ≡ fault 3)
unfolding said_from entries number_at
skips = (refl, refl)

-- marks zero, and outside the set that the sheet names
marks : (said (0x02 ∷ 0x01 ∷ 0x01 ∷ 0x01 ∷ 0x00 ∷ []) ≡ fault 4) × (said (0x02 ∷ 0x01 ∷ 0x01 ∷ 0x01 ∷ 0x03 ∷ []) ≡ fault 4)
unfolding said_from entries number_at
marks = (refl, refl)
