-- The binary digits of a number, lowest first. Definitions only.
use Rattle.std.specs.Prelude.{Bool, List, [], ◌∷◌, ℕ, ◌+◌, ◌*◌, ◌/◌, ◌%◌, ◌^◌, eqb}
use Rattle.laws.specs.Bools.{one}

-- bit k of n is set
unfoldable pub has_bit : ℕ → ℕ → Bool
has_bit n k = eqb (n / 2 ^ k % 2) 1

-- the number with these bits
unfoldable pub from_bits : List Bool → ℕ
from_bits [] = 0
from_bits (b ∷ bs) = from_bits bs * 2 + one b
