-- Reading and writing an f64's bits: the value of a finite number with a clear sign bit, and the bits of m * 2^k / 2^589. Assumes nothing.
use Rattle.std.proofs.Common.{◌≡◌, ℕ, zero, suc, ◌+◌, ◌-◌, ◌*◌, ◌/◌, ◌%◌, ◌^◌, ◌<◌, ◌≤◌, Bool, true, false, cond, not, T, eqb, ◌⊎◌, ℤ, sym, refl, ap, ◌∙◌, subst, inl, inr, ⊎_elim, lt_irrefl, mod-eq_of_lt, mul-pos, lt_of_not-le, arith, pow_pos, le-ltb, ne_eqb, le-leb}
use native.Mathlib.Nat.{add_right_comm}
use native.Mathlib.Decide.{dec_le}
use borrow.Author.Tests.{lt-leb}
use lib.Count.{count_trailing_zeros}
use lib.Ieee.{nan, inf, fin, binary64, odd, minus, of_bits, of_fields, nan_bits}
use lib.Ieee.Bits.{nan_bits_above}
use lib.Ieee.Exact.{HasValue, odd_sign}
use lib.Ieee.Positive.{positive, positive_of_value}
use Rattle.root.specs.Steps.{infinity}

pub below-or-from : (a b : ℕ) → (a < b) ⊎ (b ≤ a)
below-or-from a b = either (dec_le b a)
  where
    either : Dec (b ≤ a) → (a < b) ⊎ (b ≤ a)
    either (yes h) = inr h
    either (no f) = inl (lt_of_not-le f)

-- ---- the fields of a pattern: sign, exponent and digits
pub unsigned : (b : ℕ) → b < 2 ^ 63 → of_bits binary64 b ≡ of_fields binary64 false (b / 2 ^ 52) (b % 2 ^ 52)
unfolding of_bits
unsigned b h = rw (lt-leb (2 ^ 63) b h, mod-eq_of_lt h)

pub signed : (b : ℕ) → 2 ^ 63 ≤ b → of_bits binary64 b ≡ of_fields binary64 true (b % 2 ^ 63 / 2 ^ 52) (b % 2 ^ 52)
unfolding of_bits
signed b h = rw (le-leb (2 ^ 63) b h)

pub subnormal : (s : Bool) (t : ℕ) → of_fields binary64 s 0 t ≡ odd 53 s t 0 1074
unfolding of_fields
subnormal s t = refl

pub normal : (s : Bool) (x t : ℕ) → suc x < 2047 → of_fields binary64 s (suc x) t ≡ odd 53 s (2 ^ 52 + t) x 1074
unfolding of_fields
normal s x t h = rw (ne_eqb (suc x) 2047 (λ (e : suc x ≡ 2047). omega arith))

pub beyond : (s : Bool) (t : ℕ) → of_fields binary64 s 2047 t ≡ cond (eqb t 0) (inf s) nan
unfolding of_fields
beyond s t = refl

-- ---- the value of a finite number with a clear sign bit, in units of the smallest subnormal
pub value-subnormal : (b : ℕ) → b < 2 ^ 52 → HasValue (of_bits binary64 b) false (b * 2 ^ 0) (2 ^ 1074)
value-subnormal b h =
    let none : b / 2 ^ 52 ≡ 0 = omega arith in
    rw (unsigned b (omega arith), none, mod-eq_of_lt h, subnormal) (odd_sign 53 false b 0 1074)

pub value-normal : (b : ℕ) → 2 ^ 52 ≤ b → b < infinity → HasValue (of_bits binary64 b) false ((2 ^ 52 + b % 2 ^ 52) * 2 ^ (b / 2 ^ 52 - 1)) (2 ^ 1074)
value-normal b l h =
    let x = b / 2 ^ 52 - 1 in
    let field : b / 2 ^ 52 ≡ suc x = omega arith in
    rw (unsigned b (omega arith))
    (subst (λ (y : ℕ). HasValue (of_fields binary64 false y (b % 2 ^ 52)) false ((2 ^ 52 + b % 2 ^ 52) * 2 ^ x) (2 ^ 1074)) (sym field)
    (rw (normal false x (b % 2 ^ 52) (omega arith)) (odd_sign 53 false (2 ^ 52 + b % 2 ^ 52) x 1074)))

pub above_zero : (b : ℕ) → 0 < b → b < infinity → T (positive (of_bits binary64 b))
above_zero b l h = ⊎_elim
    (λ (g : b < 2 ^ 52). value (b * 2 ^ 0) (value-subnormal b g) (mul-pos l (pow_pos 0)))
    (λ (g : 2 ^ 52 ≤ b).
    value ((2 ^ 52 + b % 2 ^ 52) * 2 ^ (b / 2 ^ 52 - 1)) (value-normal b g h) (mul-pos (omega arith) (pow_pos (b / 2 ^ 52 - 1))))
    (below-or-from b (2 ^ 52))
  where
    value : (a : ℕ) → HasValue (of_bits binary64 b) false a (2 ^ 1074) → 0 < a → T (positive (of_bits binary64 b))
    value a = positive_of_value (of_bits binary64 b) a (2 ^ 1074)

pub not-nan : (b : ℕ) → b < infinity → T (not (nan_bits binary64 b))
not-nan b h = rw (nan_bits_above binary64 b, le-ltb infinity (b % 2 ^ 63) (omega arith)) tt

-- ---- the bits of m * 2^k / 2^589
minus-both : (a b c : ℕ) → minus (a + c) (b + c) ≡ minus a b
minus-both a b c = ⊎_elim
    (λ (h : a < b).
    let e : b + c - suc (a + c) ≡ b - suc a = omega arith in
    rw (lt-leb (b + c) (a + c) (omega arith), lt-leb b a h, e))
    (λ (h : b ≤ a).
    let e : a + c - (b + c) ≡ a - b = omega arith in
    rw (le-leb (b + c) (a + c) (omega arith), le-leb b a h, e))
    (below-or-from a b)

odd-both : (m k : ℕ) → 0 < m → odd 53 false m (k + 485) 1074 ≡ odd 53 false m k 589
unfolding odd
odd-both zero k h = absurd (lt_irrefl 0 h)
odd-both (suc q) k h =
    let t = count_trailing_zeros 53 (suc q) in
    ap (λ (e : ℤ). fin false (suc q / 2 ^ t) e) (ap (λ (y : ℕ). minus y 1074) (add_right_comm k 485 t) ∙ minus-both (k + t) 589 485)

pub bits_of : (m k : ℕ) → 2 ^ 52 ≤ m → m < 2 ^ 53 → k ≤ 1500 → of_bits binary64 ((k + 485) * 2 ^ 52 + m) ≡ odd 53 false m k 589
bits_of m k lo hi h =
    let b = (k + 485) * 2 ^ 52 + m in
    let field : b / 2 ^ 52 ≡ suc (k + 485) = omega arith in
    let digits : b % 2 ^ 52 ≡ m - 2 ^ 52 = omega arith in
    let all : 2 ^ 52 + (m - 2 ^ 52) ≡ m = omega arith in
    let fields : of_bits binary64 b ≡ odd 53 false (2 ^ 52 + (m - 2 ^ 52)) (k + 485) 1074 =
    rw (unsigned b (omega arith), field, digits) (normal false (k + 485) (m - 2 ^ 52) (omega arith)) in
    (rw all at fields) ∙ odd-both m k (omega arith)
