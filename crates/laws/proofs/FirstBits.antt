-- The bits of a number as a list: they make the number again, and as many are set as the code's count of ones says. Assumes nothing.
use mathlib.Core.Path.{◌≡◌, refl, sym, ap, ap₂, ◌∙◌}
use mathlib.Core.Bool.{Bool}
use mathlib.Core.List.{List, [], ◌∷◌}
use Prim.Native.Nat.{ℕ, zero, suc, ◌+◌, ◌*◌, ◌/◌, ◌%◌, ◌^◌, ◌<◌}
use native.Mathlib.Omega.{arith}
use native.Mathlib.Nat.{add-zero, div-one, pow-suc}
use native.Mathlib.Numerals.{add-one}
use lib.Count.{ones, ones_step}
use lib.Bits.{and_mask}
use lib.Pow.{shr-shr}
use Rattle.laws.specs.Bools.{one, count}
use Rattle.laws.specs.Bits.{has_bit, from_bits}
use Rattle.laws.proofs.Bits.{one-lt, has-shr, low_bit}

-- the w bits of n from bit k on
abbrev pub bits_from : ℕ → ℕ → ℕ → List Bool
bits_from zero k n = []
bits_from (suc w) k n = has_bit n k ∷ bits_from w (suc k) n

-- bit k as a digit
digit : (n k : ℕ) → one (has_bit n k) ≡ n / 2 ^ k % 2
digit n k = ap one (sym (has-shr n k 0 ∙ ap (has_bit n) (add-zero k))) ∙ sym (low_bit (n / 2 ^ k)) ∙ and_mask (n / 2 ^ k) 1

from_bits-bits_from : (w k n : ℕ) → n / 2 ^ k < 2 ^ w → from_bits (bits_from w k n) ≡ n / 2 ^ k
unfolding from_bits
from_bits-bits_from zero k n h = omega arith
from_bits-bits_from (suc w) k n h =
    let half : n / 2 ^ suc k ≡ n / 2 ^ k / 2 = sym (shr-shr n k 1 ∙ ap (λ (j : ℕ). n / 2 ^ j) (add-one k)) in
    let rest : from_bits (bits_from w (suc k) n) ≡ n / 2 ^ suc k = from_bits-bits_from w (suc k) n (omega (arith, pow-suc 2 w)) in
    omega (arith, digit n k)

-- a number's bits make it again
pub bits-again : (w n : ℕ) → n < 2 ^ w → from_bits (bits_from w 0 n) ≡ n
bits-again w n h = from_bits-bits_from w 0 n (omega (arith, div-one n)) ∙ div-one n

-- what the code's count of ones tells
pub ones-from_bits : (bs : List Bool) → ones (from_bits bs) ≡ count bs
unfolding from_bits count ones
ones-from_bits [] = refl
ones-from_bits (b ∷ bs) =
    let odd : (from_bits bs * 2 + one b) % 2 ≡ one b = omega (arith, one-lt b) in
    let half : (from_bits bs * 2 + one b) / 2 ≡ from_bits bs = omega (arith, one-lt b) in
    ones_step (from_bits bs * 2 + one b) ∙ ap₂ ◌+◌ odd (ap ones half ∙ ones-from_bits bs)
