-- What bytes mean at the C boundary: eight to a value, two to a point's marks, low byte first (01, 'Port order and changes of shape',
-- last sentence). Definitions only.
use Rattle.std.specs.Prelude.{Bool, not, List, [], ◌∷◌, ℕ, ◌+◌, ◌*◌, ◌/◌, ◌%◌, eqb, Float, length, take, drop}
use Rattle.std.specs.Float.{binary64}
use Rattle.std.specs.Float.Ieee.{of_bits}
use Rattle.laws.specs.Lists.{tabulate}

-- the number whose bytes these are
unfoldable pub word_of : List ℕ → ℕ
word_of [] = 0
word_of (b ∷ bs) = b + 256 * word_of bs

-- the value whose bits are the eight bytes from 8 * i on; a pattern that is a NaN's is `nan`
unfoldable pub float_at : List ℕ → ℕ → Float
float_at bs i = of_bits binary64 (word_of (take 8 (drop (8 * i) bs)))

unfoldable pub floats_of : List ℕ → List Float
floats_of bs = tabulate (float_at bs) (length bs / 8)

-- a length that is not a multiple of eight
abbrev pub not_eights : List ℕ → Bool
not_eights bs = not (eqb (length bs % 8) 0)

-- the bytes of the marks, point after point
unfoldable pub bytes_of : List ℕ → List ℕ
bytes_of [] = []
bytes_of (m ∷ ms) = m % 256 ∷ m / 256 ∷ bytes_of ms
