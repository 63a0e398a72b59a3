-- What is allowed at each kind of bit pattern. Assumes nothing.
use Rattle.std.proofs.Common.{◌≡◌, ℕ, zero, suc, ◌+◌, ◌*◌, ◌/◌, ◌%◌, ◌^◌, ◌<◌, ◌≤◌, Bool, true, false, cond, not, T, eqb, sym, refl, ap, subst, ⊎_elim, mul-pos, arith, pow_pos}
use mathlib.Core.Bool.{false≢true}
use lib.Ieee.{Float, nan, inf, fin, binary64, odd, of_bits, of_fields, is_nan}
use lib.Ieee.Exact.{HasValue, odd_sign}
use lib.Ieee.Positive.{positive}
use Rattle.root.specs.Root.{IsRoot, Allowed, Answer, done, refusal}
use Rattle.root.specs.Steps.{infinity}
use Rattle.root.proofs.Patterns.{below-or-from, unsigned, signed, subnormal, normal, beyond}
use Rattle.root.proofs.Value.{no_zero}

-- ---- a number above 0, and the zeros
pub allowed-root : (x r : Float) → T (positive x) → IsRoot x r → Allowed x (done r)
unfolding Allowed
allowed-root nan r p i = absurd p
allowed-root (inf s) r p i = absurd p
allowed-root (fin true zero e) r p i = absurd p
allowed-root (fin true (suc m) e) r p i = absurd p
allowed-root (fin false zero e) r p i = absurd p
allowed-root (fin false (suc m) e) r p i = (r, refl, i)

pub allowed-zero : Allowed (of_bits binary64 0) (done (of_bits binary64 0))
unfolding Allowed of_bits
allowed-zero = refl

pub allowed-minus-zero : Allowed (of_bits binary64 0x8000000000000000) (done (of_bits binary64 0x8000000000000000))
unfolding Allowed of_bits
allowed-minus-zero = refl

-- ---- infinities and NaNs
refused-beyond : (s : Bool) (t : ℕ) → Allowed (of_fields binary64 s 2047 t) refusal
unfolding Allowed
refused-beyond s t = rw beyond (either (eqb t 0))
  where
    either : (b : Bool) → Allowed (cond b (inf s) nan) refusal
    either true = refl
    either false = refl

-- ---- numbers below 0
refused-negative : (x : Float) (a c : ℕ) → HasValue x true a c → 0 < a → Allowed x refusal
unfolding Allowed
refused-negative nan a c v h = absurd v
refused-negative (inf s) a c v h = absurd v
refused-negative (fin false zero e) a c v h = absurd (false≢true v.0)
refused-negative (fin false (suc m) e) a c v h = absurd (false≢true v.0)
refused-negative (fin true (suc m) e) a c v h = refl
refused-negative (fin true zero e) a c v h = absurd (no_zero e a c h v.1)

refused-odd : (q k : ℕ) → 0 < q → Allowed (odd 53 true q k 1074) refusal
refused-odd q k h = refused-negative (odd 53 true q k 1074) (q * 2 ^ k) (2 ^ 1074) (odd_sign 53 true q k 1074) (mul-pos h (pow_pos k))

-- with the sign bit set: either the exponent's field is not 0, or the digits are not
refused-fields : (x t : ℕ) → x < 2048 → (x ≡ 0 → 0 < t) → Allowed (of_fields binary64 true x t) refusal
refused-fields zero t h p = rw subnormal (refused-odd t 0 (p refl))
refused-fields (suc x) t h p = ⊎_elim
    (λ (g : suc x < 2047). rw (normal true x t g) (refused-odd (2 ^ 52 + t) x (omega arith)))
    (λ (g : 2047 ≤ suc x).
    let e : suc x ≡ 2047 = omega arith in
    rw e (refused-beyond true t))
    (below-or-from (suc x) 2047)

-- ---- every pattern from +infinity's up, but that of -0.0
pub refused-from : (b : ℕ) → infinity ≤ b → (b ≡ 0x8000000000000000 → ⊥) → b < 2 ^ 64 → Allowed (of_bits binary64 b) refusal
refused-from b l n h = ⊎_elim
    (λ (g : b < 2 ^ 63).
    let e : b / 2 ^ 52 ≡ 2047 = omega arith in
    rw (unsigned b g, e) (refused-beyond false (b % 2 ^ 52)))
    (λ (g : 2 ^ 63 ≤ b).
    let digits : b % 2 ^ 63 / 2 ^ 52 ≡ 0 → 0 < b % 2 ^ 52 = λ e. omega arith in
    rw (signed b g) (refused-fields (b % 2 ^ 63 / 2 ^ 52) (b % 2 ^ 52) (omega arith) digits))
    (below-or-from b (2 ^ 63))

-- ---- the code's test for a NaN, which differs from itself
pub refused-nan : (x : Float) → is_nan x ≡ true → Allowed x refusal
unfolding Allowed is_nan
refused-nan nan h = refl
refused-nan (inf s) h = absurd (false≢true h)
refused-nan (fin s m e) h = absurd (false≢true h)

-- ---- an answer that is not the refusal has a number
pub not-refused : (r : Float) → done r ≡ refusal → ⊥
not-refused r e = let z : ◌≡◌ {A = ℕ} 0 3 = ap (λ (a : Answer). a.0) e in omega arith

number-of-value : (r : Float) (s : Bool) (a c : ℕ) → HasValue r s a c → T (not (is_nan r))
unfolding is_nan
number-of-value nan s a c v = absurd v
number-of-value (inf t) s a c v = absurd v
number-of-value (fin t m e) s a c v = tt

pub allowed-number : (x r : Float) → Allowed x (done r) → T (not (is_nan r))
unfolding Allowed is_nan
allowed-number nan r p = absurd (not-refused r p)
allowed-number (inf s) r p = absurd (not-refused r p)
allowed-number (fin true (suc m) e) r p = absurd (not-refused r p)
allowed-number (fin s zero e) r p = subst (λ (y : Float). T (not (is_nan y))) (sym (ap (λ (a : Answer). a.1) p)) tt
allowed-number (fin false (suc m) e) r (q, is, i) =
    subst (λ (y : Float). T (not (is_nan y))) (sym (ap (λ (a : Answer). a.1) is)) (number-of-value q false (i.m * 2 ^ i.k) (2 ^ 589) i.value)
