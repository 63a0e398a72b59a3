-- One bit of a word, as the code sets, clears and tests it: the bits of 2 ^ k, of a word's complement, and the test by and. Assumes nothing.
use mathlib.Core.Path.{◌≡◌, refl, sym, ap, ◌∙◌}
use mathlib.Core.Bool.{false, not}
use Prim.Native.Nat.{ℕ, zero, suc, ◌+◌, ◌*◌, ◌-◌, ◌/◌, ◌%◌, ◌^◌, ◌<◌}
use native.Mathlib.Omega.{arith}
use native.Mathlib.Nat.{div-one, zero-div, mod-lt, mod-eq_of_lt, zero-lt-suc, pow-suc}
use native.Mathlib.Numerals.{one-add}
use lib.Dec.{eqb, eqb-zero-suc, eqb-suc-zero, eqb-suc-suc}
use lib.Bits.{bit_and, and_high}
use lib.Pow.{pow_pos, pow-lt}
use borrow.Author.Tests.{eq-eqb, ne_eqb}
use Rattle.laws.specs.Bits.{has_bit}
use Rattle.laws.proofs.Bits.{has-shr}

-- ---- bit by bit, from the lowest

bit-zero : (n : ℕ) → has_bit n 0 ≡ eqb (n % 2) 1
unfolding has_bit
bit-zero n = ap (λ (m : ℕ). eqb (m % 2) 1) (div-one n)

bit-suc : (n k : ℕ) → has_bit n (suc k) ≡ has_bit (n / 2) k
bit-suc n k = sym (has-shr n 1 k ∙ ap (has_bit n) (one-add k))

pub no-bit : (k : ℕ) → has_bit 0 k ≡ false
unfolding has_bit
no-bit k = rw zero-div refl

-- ---- the word with one bit

-- what the code's `1 << k` is
pub one_shl : (k w : ℕ) → k < w → (1 * 2 ^ k) % 2 ^ w ≡ 2 ^ k
one_shl k w h = ap (λ (n : ℕ). n % 2 ^ w) (omega arith) ∙ mod-eq_of_lt (pow-lt h)

pub has-pow : (k j : ℕ) → has_bit (2 ^ k) j ≡ eqb k j
has-pow zero zero = bit-zero 1
has-pow zero (suc j) = bit-suc 1 j ∙ no-bit j ∙ sym (eqb-zero-suc j)
has-pow (suc k) zero =
    let even : 2 ^ suc k % 2 ≡ 0 = omega (arith, pow-suc 2 k) in
    bit-zero (2 ^ suc k) ∙ ap (λ (n : ℕ). eqb n 1) even ∙ sym (eqb-suc-zero k)
has-pow (suc k) (suc j) =
    let half : 2 ^ suc k / 2 ≡ 2 ^ k = omega (arith, pow-suc 2 k) in
    bit-suc (2 ^ suc k) j ∙ ap (λ (n : ℕ). has_bit n j) half ∙ has-pow k j ∙ sym (eqb-suc-suc k j)

-- ---- the complement of a word

digit_not : (d : ℕ) → d < 2 → eqb (1 - d) 1 ≡ not (eqb d 1)
digit_not zero h = refl
digit_not (suc zero) h = refl
digit_not (suc (suc d)) h = absurd (omega arith)

pub has-not : (w n k : ℕ) → n < 2 ^ w → k < w → has_bit ((2 ^ w - 1) - n) k ≡ not (has_bit n k)
has-not zero n k h q = absurd (omega arith)
has-not (suc w) n zero h q =
    let odd : ((2 ^ suc w - 1) - n) % 2 ≡ 1 - n % 2 = omega (arith, pow-suc 2 w) in
    bit-zero ((2 ^ suc w - 1) - n)
    ∙ ap (λ (m : ℕ). eqb m 1) odd
    ∙ digit_not (n % 2) (mod-lt n (zero-lt-suc 1))
    ∙ ap not (sym (bit-zero n))
has-not (suc w) n (suc k) h q =
    let half : ((2 ^ suc w - 1) - n) / 2 ≡ (2 ^ w - 1) - n / 2 = omega (arith, pow-suc 2 w) in
    bit-suc ((2 ^ suc w - 1) - n) k
    ∙ ap (λ (m : ℕ). has_bit m k) half
    ∙ has-not w (n / 2) k (omega (arith, pow-suc 2 w)) (omega arith)
    ∙ ap not (sym (bit-suc n k))

-- ---- the test

and_pow : (n k : ℕ) → bit_and n (2 ^ k) ≡ n / 2 ^ k % 2 * 2 ^ k
and_pow n k =
    let one_block : 2 ^ (1 + k) - 2 ^ k ≡ 2 ^ k = omega (arith, ap (λ (j : ℕ). 2 ^ j) (one-add k) ∙ pow-suc 2 k) in
    ap (bit_and n) (sym one_block) ∙ and_high n 1 k

digit-test : (d p : ℕ) → d < 2 → 0 < p → not (eqb (d * p) 0) ≡ eqb d 1
digit-test zero p h q = ap not (eq-eqb (0 * p) 0 (omega arith))
digit-test (suc zero) p h q = ap not (ne_eqb (1 * p) 0 (λ e. omega arith))
digit-test (suc (suc d)) p h q = absurd (omega arith)

-- what the code's `n & (1 << k) != 0` tells
pub test-pow : (n k : ℕ) → not (eqb (bit_and n (2 ^ k)) 0) ≡ has_bit n k
unfolding has_bit
test-pow n k =
    ap (λ (x : ℕ). not (eqb x 0)) (and_pow n k)
    ∙ digit-test (n / 2 ^ k % 2) (2 ^ k) (mod-lt (n / 2 ^ k) (zero-lt-suc 1)) (pow_pos k)
