-- What its value tells of an f64: two of them above 0 with one value are equal, and a root is above 0. Assumes nothing.
use Rattle.std.proofs.Common.{◌≡◌, ℕ, zero, suc, ◌+◌, ◌*◌, ◌%◌, ◌^◌, ◌<◌, false, T, ℤ, pos, negsuc, sym, refl, ap, ◌∙◌, subst, lt_irrefl, mul_assoc, mul-pos, pow-suc, zero-mul, mul-one, mul_right_comm, mul_left_comm, arith, pow_pos, pow-add}
use native.Mathlib.Nat.{eq_of_mul-eq-mul_right, pow-succ'}
use lib.Ieee.{Float, nan, inf, fin, binary64, fits, up, down}
use lib.Ieee.Exact.{HasValue}
use lib.Ieee.Fits.{down_pos}
use lib.Ieee.Positive.{positive, positive_of_value}
use Rattle.root.specs.Root.{IsRoot}
use Rattle.root.proofs.Format.{fitting}

-- ---- an odd number times a power of two is so in one way
even_odd : (m t : ℕ) → m % 2 ≡ 1 → m ≡ 2 * t → ⊥
even_odd m t o h = omega arith

odd_power : (m n a b : ℕ) → m % 2 ≡ 1 → n % 2 ≡ 1 → m * 2 ^ a ≡ n * 2 ^ b → (m ≡ n) × (a ≡ b)
odd_power m n zero zero o p h = (omega arith, refl)
odd_power m n zero (suc b) o p h = absurd (even_odd m (n * 2 ^ b) o (sym (mul-one m) ∙ h ∙ rw pow-succ' (mul_left_comm n 2 (2 ^ b))))
odd_power m n (suc a) zero o p h = absurd (even_odd n (m * 2 ^ a) p (sym (mul-one n) ∙ sym h ∙ rw pow-succ' (mul_left_comm m 2 (2 ^ a))))
odd_power m n (suc a) (suc b) o p h =
    let twice : m * 2 ^ a * 2 ≡ n * 2 ^ b * 2 = mul_assoc m (2 ^ a) 2 ∙ rw (← pow-suc 2 a, ← pow-suc 2 b) h ∙ sym (mul_assoc n (2 ^ b) 2) in
    let r = odd_power m n a b o p (omega arith) in
    (r.0, ap suc r.1)

-- ---- 2^e as a fraction of powers of two
ups : ℤ → ℕ
ups (pos k) = k
ups (negsuc k) = 0

downs : ℤ → ℕ
downs (pos k) = 0
downs (negsuc k) = suc k

fraction : (e g : ℤ) → up e * down g ≡ 2 ^ (ups e + downs g)
unfolding ups downs
fraction (pos a) (pos b) = sym (pow-add 2 a 0)
fraction (pos a) (negsuc b) = sym (pow-add 2 a (suc b))
fraction (negsuc a) (pos b) = refl
fraction (negsuc a) (negsuc b) = sym (pow-add 2 0 (suc b))

same-exponent : (e g : ℤ) → ups e + downs g ≡ ups g + downs e → e ≡ g
unfolding ups downs
same-exponent (pos a) (pos b) h = ap pos (omega arith)
same-exponent (pos a) (negsuc b) h = absurd (omega arith)
same-exponent (negsuc a) (pos b) h = absurd (omega arith)
same-exponent (negsuc a) (negsuc b) h = ap negsuc (omega arith)

-- ---- an f64 above 0 has an odd number for its digits
pub no_zero : (e : ℤ) (a c : ℕ) → 0 < a → zero * up e * c ≡ a * down e → ⊥
no_zero e a c h v = lt_irrefl 0 (subst (λ (y : ℕ). 0 < y) (sym v ∙ ap (λ (y : ℕ). y * c) (zero-mul (up e)) ∙ zero-mul c) (mul-pos h (down_pos e)))

digits_of : (x : Float) (a c : ℕ) → 0 < a → T (fits binary64 x) → HasValue x false a c
    → (m : ℕ) × (e : ℤ) × (x ≡ fin false m e) × (m % 2 ≡ 1) × (m * up e * c ≡ a * down e)
digits_of nan a c h t v = absurd v
digits_of (inf s) a c h t v = absurd v
digits_of (fin s zero e) a c h t v = absurd (no_zero e a c h v.1)
digits_of (fin s (suc m) e) a c h t v = (suc m, e, ap (λ s. fin s (suc m) e) v.0, (fitting s m e t).odd, v.1)

-- ---- so its value tells which it is
crossed : (a c m n : ℕ) (e g : ℤ) → 0 < c → m * up e * c ≡ a * down e → n * up g * c ≡ a * down g → m * (up e * down g) ≡ n * (up g * down e)
crossed a c m n e g h v w =
    eq_of_mul-eq-mul_right c h (m * (up e * down g)) (n * (up g * down e))
    (rw (moved m (up e) (down g), moved n (up g) (down e), v, w) (mul_right_comm a (down e) (down g)))
  where
    moved : (q u d : ℕ) → q * (u * d) * c ≡ q * u * c * d
    moved q u d = ap (λ (y : ℕ). y * c) (sym (mul_assoc q u d)) ∙ mul_right_comm (q * u) d c

pub value-unique : (x y : Float) (a c : ℕ) → 0 < a → 0 < c
    → T (fits binary64 x) → T (fits binary64 y) → HasValue x false a c → HasValue y false a c → x ≡ y
value-unique x y a c some den p q v w =
    let (m, e, x-is, m-odd, m-value) = digits_of x a c some p v in
    let (n, g, y-is, n-odd, n-value) = digits_of y a c some q w in
    let cross : m * 2 ^ (ups e + downs g) ≡ n * 2 ^ (ups g + downs e) = rw (← fraction e g, ← fraction g e) (crossed a c m n e g den m-value n-value) in
    let same = odd_power m n (ups e + downs g) (ups g + downs e) m-odd n-odd cross in
    x-is ∙ ap (λ (d : ℕ). fin false d e) same.0 ∙ ap (λ (z : ℤ). fin false n z) (same-exponent e g same.1) ∙ sym y-is

-- ---- the root of a number above 0 is above 0
pub root-positive : (x r : Float) → IsRoot x r → T (positive r)
root-positive x r i = positive_of_value r (i.m * 2 ^ i.k) (2 ^ 589) i.value (mul-pos (omega (arith, i.least)) (pow_pos i.k))
