-- An f64 is finite exactly if it lies between the largest one and its negative. Assumes nothing.
use mathlib.Core.Path.{◌≡◌, refl, sym, ap, ◌∙◌, subst}
use mathlib.Core.Bool.{Bool, true, false, ◌&&◌, ◌||◌, and-true}
use Prim.Native.Nat.{ℕ, zero, suc, ◌+◌, ◌-◌, ◌*◌, ◌%◌, ◌^◌, ◌≤◌, ◌<◌}
use native.Mathlib.Nat.{mul-le-mul_left, mul-le-mul_right, le_trans, mul_assoc}
use native.Mathlib.Omega.{arith}
use borrow.Author.Tests.{leb-true, leb-false, ltb-false, eqb-false}
use lib.Dec.{T, leb, ltb, eqb, ltb→lt, lit<}
use lib.IntN.{ℤ, pos, negsuc}
use lib.Pow.{pow-add, pow_mono, pow_pos, shr_lt, shl-shr}
use lib.Ieee.{Float, nan, inf, fin, binary64, fits, lt, eq, le, of_bits, up, down, neg}
use lib.Ieee.Fits.{and_l, and_r}
use Rattle.floats.specs.Finite.{finite}
use Rattle.floats.specs.Values.{plus_zero}

-- (2^53 - 1) * 2^971
abbrev pub largest : Float
largest = of_bits binary64 9218868437227405311

-- ---- at most p digits ahead of zeros, and below 2^p * 2^q: at most p ones ahead of q zeros

more-zeros : (p q m j : ℕ) → m * 2 ^ (j + q) < 2 ^ (p + q) → m * 2 ^ (j + q) ≤ (2 ^ p - 1) * 2 ^ q
more-zeros p q m j below = rw split (mul-le-mul_right (2 ^ q) (omega (arith, high)))
  where
    split : m * 2 ^ (j + q) ≡ m * 2 ^ j * 2 ^ q
    split = ap (λ (x : ℕ). m * x) (pow-add 2 j q) ∙ sym (mul_assoc m (2 ^ j) (2 ^ q))

    high : m * 2 ^ j < 2 ^ p
    high = subst (λ (x : ℕ). x < 2 ^ p) (shl-shr (m * 2 ^ j) q) (shr_lt p q (subst (λ (x : ℕ). x < 2 ^ (p + q)) split below))

under : (p q m k : ℕ) → m < 2 ^ p → m * 2 ^ k < 2 ^ (p + q) → m * 2 ^ k ≤ (2 ^ p - 1) * 2 ^ q
under p q m k few below = by (leb k q) (leb-true k q) (leb-false k q)
  where
    by : (b : Bool) → (b ≡ true → k ≤ q) → (b ≡ false → q < k) → m * 2 ^ k ≤ (2 ^ p - 1) * 2 ^ q
    by true h g = le_trans (mul-le-mul_left m (pow_mono (h refl))) (mul-le-mul_right (2 ^ q) (omega (arith, few)))
    by false h g =
        let e : k - q + q ≡ k = omega (arith, g refl) in
        subst (λ (x : ℕ). m * 2 ^ x ≤ (2 ^ p - 1) * 2 ^ q) e (more-zeros p q m (k - q) (subst (λ (x : ℕ). m * 2 ^ x < 2 ^ (p + q)) (sym e) below))

-- the same of a number with a fraction, each side times what makes it whole
within : (p q m : ℕ) (e : ℤ) → m < 2 ^ p → m * up e < 2 ^ (p + q) * down e → m * up e * 1 ≤ (2 ^ p - 1) * 2 ^ q * down e
within p q m (pos k) few below = omega (arith, under p q m k few (omega (arith, below)))
within p q m (negsuc k) few below =
    omega
    (arith, few, mul-le-mul_left (2 ^ p - 1) (pow_pos q), mul-le-mul_left ((2 ^ p - 1) * 2 ^ q) (pow_pos (suc k)))

nothing : (e : ℤ) (n : ℕ) → 0 * up e * 1 ≤ n
nothing e n = omega arith

-- the same of what the format holds
magnitude : (s : Bool) (m : ℕ) (e : ℤ) → T (fits binary64 (fin s m e)) → m * up e * 1 ≤ (2 ^ 53 - 1) * 2 ^ 971 * down e
unfolding fits
magnitude s zero e t = nothing e _
magnitude s (suc m) e t =
    let held = held-parts (eqb (suc m % 2) 1) (ltb (suc m) (2 ^ 53)) (leb (down e) (2 ^ 1074)) (ltb (suc m * up e) (2 ^ 1024 * down e)) t in
    within 53 971 (suc m) e (ltb→lt (suc m) (2 ^ 53) held.0) (ltb→lt (suc m * up e) (2 ^ 1024 * down e) held.1)
  where
    -- of what the format asks of a number: its digits and its size
    held-parts : (a b c d : Bool) → T (a && b && c && d) → T b × T d
    held-parts a b c d t = (and_r a b (and_l (a && b) c (and_l (a && b && c) d t)), and_r (a && b && c) d t)

above_zero : (p q : ℕ) (e : ℤ) → 0 < p → 0 < p * 2 ^ q * down e
above_zero p q (pos k) h = omega (arith, mul-le-mul_left p (pow_pos q), h)
above_zero p q (negsuc k) h = omega (arith, mul-le-mul_left p (pow_pos q), mul-le-mul_left (p * 2 ^ q) (pow_pos (suc k)), h)

-- ---- in comparisons: of numbers of one sign, and of two

alike : (a b : ℕ) (same : Bool) → (same ≡ false → a ≡ b → ⊥) → a ≤ b → (ltb a b || (same && true)) ≡ true
alike a b same differ h = by (ltb a b) same (ltb-false a b) differ
  where
    by : (p q : Bool) → (p ≡ false → b ≤ a) → (q ≡ false → a ≡ b → ⊥) → (p || (q && true)) ≡ true
    by true q f g = refl
    by false true f g = refl
    by false false f g = absurd (g refl (omega (arith, h, f refl)))

apart : (n : ℕ) (same : Bool) → 0 < n → (ltb 0 n || same) ≡ true
apart n same h = by (ltb 0 n) (ltb-false 0 n)
  where
    by : (p : Bool) → (p ≡ false → n ≤ 0) → (p || same) ≡ true
    by true f = refl
    by false f = absurd (omega (arith, h, f refl))

sums : (a b : ℕ) → 0 < b → (0 < a + b) × (0 < b + a)
sums a b h = (omega (arith, h), omega (arith, h))

not-above : (s : Bool) (m : ℕ) (e : ℤ) → T (fits binary64 (fin s m e)) → le (fin s m e) largest ≡ true
unfolding lt eq le of_bits
not-above false m e t = alike _ _ _ (eqb-false _ _) (magnitude false m e t)
not-above true m e t = apart _ _ (sums (m * up e * 1) _ (above_zero (2 ^ 53 - 1) 971 e (lit< tt))).0

not-below : (s : Bool) (m : ℕ) (e : ℤ) → T (fits binary64 (fin s m e)) → le (neg largest) (fin s m e) ≡ true
unfolding lt eq le neg of_bits
not-below false m e t = apart _ _ (sums (m * up e * 1) _ (above_zero (2 ^ 53 - 1) 971 e (lit< tt))).1
not-below true m e t = alike _ _ _ (λ h same. eqb-false _ _ h (sym same)) (magnitude true m e t)

pub between-largest : (v : Float) → T (fits binary64 v) → le v largest && le (neg largest) v ≡ finite v
unfolding lt eq le neg finite of_bits
between-largest nan t = refl
between-largest (inf true) t = refl
between-largest (inf false) t = refl
between-largest (fin s m e) t = rw (not-above s m e t) (not-below s m e t)

pub at-most-largest : (u : Float) → T (fits binary64 u) → lt plus_zero u && le u largest ≡ finite u && lt plus_zero u
unfolding lt eq le finite of_bits
at-most-largest nan t = refl
at-most-largest (inf true) t = refl
at-most-largest (inf false) t = refl
at-most-largest (fin true m e) t = refl
at-most-largest (fin false m e) t = ap (λ (x : Bool). lt plus_zero (fin false m e) && x) (not-above false m e t) ∙ and-true _
