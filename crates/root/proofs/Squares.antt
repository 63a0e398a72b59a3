-- Squares, and powers of two and of four, on plain numbers. Assumes nothing.
use Rattle.std.proofs.Common.{◌≡◌, ℕ, zero, suc, ◌+◌, ◌*◌, ◌^◌, ◌<◌, ◌≤◌, sym, refl, ap, ◌∙◌, le_of_suc-le-suc, zero-lt-suc, mul_assoc, add-mul, mul-le-mul, pow-suc, lt_of_not-le, mul-add, not-le_of_lt, mul_left_comm, add-one, arith, pow_mono}
use native.Mathlib.Nat.{mul-mul-mul_comm, one-le-pow}
use lib.Pow.{pow-lt}

-- ---- squares

-- r is the whole part of the root of n
abbrev pub Floor : (r n : ℕ) → Type 0
Floor r n = (r * r ≤ n) × (n < (r + 1) * (r + 1))

pub square-next : (r : ℕ) → (r + 1) * (r + 1) ≡ r * r + 2 * r + 1
square-next r = add-mul r 1 (r + 1) ∙ omega (arith, mul-add r r 1)

pub square-twice : (r : ℕ) → 2 * r * (2 * r) ≡ 4 * (r * r)
square-twice r = omega (arith, mul_assoc 2 r (2 * r), mul_left_comm r 2 r)

pub square-odd : (r : ℕ) → (2 * r + 1) * (2 * r + 1) ≡ 4 * (r * r) + 4 * r + 1
square-odd r = omega (arith, square-next (2 * r), square-twice r)

pub square-mono : {a b : ℕ} → a ≤ b → a * a ≤ b * b
square-mono h = mul-le-mul h h

pub square-back : (a b : ℕ) → a * a < b * b → a < b
square-back a b h = lt_of_not-le (λ (g : b ≤ a). not-le_of_lt h (square-mono g))

-- ---- powers
pub two-next : (i : ℕ) → 2 ^ (i + 1) ≡ 2 * 2 ^ i
two-next i = rw add-one (omega (arith, pow-suc 2 i))

pub power-lt-back : (a b : ℕ) → 2 ^ a < 2 ^ b → a < b
power-lt-back a b h = lt_of_not-le (λ (g : b ≤ a). not-le_of_lt h (pow_mono g))

pub power-le-back : (a b : ℕ) → 2 ^ a ≤ 2 ^ b → a ≤ b
power-le-back a b h = le_of_suc-le-suc (lt_of_not-le (λ (g : b < a). not-le_of_lt (pow-lt g) h))

pub four-next : (i : ℕ) → 4 ^ (i + 1) ≡ 4 * 4 ^ i
four-next i = rw add-one (omega (arith, pow-suc 4 i))

pub four-positive : (n : ℕ) → 0 < 4 ^ n
four-positive n = one-le-pow n 4 (zero-lt-suc 3)

pub four_is : (n : ℕ) → 4 ^ n ≡ 2 ^ n * 2 ^ n
four_is zero = refl
four_is (suc n) = pow-suc 4 n ∙ ap (λ (x : ℕ). x * 4) (four_is n) ∙ sym (rw pow-suc (mul-mul-mul_comm (2 ^ n) 2 (2 ^ n) 2))

-- a square times a power of four is a square
pub square-scaled : (c k : ℕ) → c * c * 4 ^ k ≡ c * 2 ^ k * (c * 2 ^ k)
square-scaled c k = rw four_is (mul-mul-mul_comm c c (2 ^ k) (2 ^ k))
