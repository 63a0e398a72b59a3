-- Which rounded operations give no NaN: of finite values none does but a division by zero, and an infinity on one side alone is taken by a
-- sum, by a product with a number that is not zero, and by a division by one. Assumes nothing.
use mathlib.Core.Path.{◌≡◌, refl, sym, ap}
use mathlib.Core.Bool.{Bool, true, false, ◌&&◌, beq, cond, true≢false}
use Prim.Native.Nat.{ℕ, zero, suc, ◌+◌, ◌-◌, ◌*◌, ◌^◌}
use lib.Dec.{ltb, eqb}
use lib.IntN.{ℤ}
use lib.Ieee.{Float, nan, inf, fin, Format, prec, emax, low, up, down, unlike, odd, units, round, neg, sum, add, sub, mul, div, is_nan}
use Rattle.floats.specs.Finite.{finite}

-- ---- rounding

odd_no_nan : (d : ℕ) (s : Bool) (q k l : ℕ) → is_nan (odd d s q k l) ≡ false
unfolding odd is_nan
odd_no_nan d s zero k l = refl
odd_no_nan d s (suc q) k l = refl

units-no-nan : (f : Format) (s : Bool) (q k : ℕ) → is_nan (units f s q k) ≡ false
unfolding units is_nan
units-no-nan f s q k = by (ltb (q * 2 ^ k) (2 ^ (low f + suc (emax f))))
  where
    by : (b : Bool) → is_nan (cond b (odd (suc (prec f)) s q k (low f)) (inf s)) ≡ false
    by true = odd_no_nan (suc (prec f)) s q k (low f)
    by false = refl

round-no-nan : (f : Format) (s : Bool) (num den : ℕ) → is_nan (round f s num den) ≡ false
unfolding round
round-no-nan f s num den = units-no-nan f s _ _

-- ---- sums and differences

sum-no-nan : (f : Format) (s : Bool) (a : ℕ) (t : Bool) (b c : ℕ) → is_nan (sum f s a t b c) ≡ false
unfolding sum
sum-no-nan f s a t b c = by (beq s t) (ltb a b)
  where
    by : (p q : Bool)
        → is_nan (cond p (round f s (a + b) c) (cond q (round f t (b - a) c) (round f (s && ltb b a) (a - b) c))) ≡ false
    by true q = round-no-nan f s (a + b) c
    by false true = round-no-nan f t (b - a) c
    by false false = round-no-nan f (s && ltb b a) (a - b) c

pub add-no-nan : (f : Format) (x y : Float) → finite x ≡ true → is_nan y ≡ false → is_nan (add f x y) ≡ false
unfolding add finite is_nan
add-no-nan f nan y h k = absurd (true≢false (sym h))
add-no-nan f (inf s) y h k = absurd (true≢false (sym h))
add-no-nan f (fin s m e) nan h k = absurd (true≢false k)
add-no-nan f (fin s m e) (inf t) h k = refl
add-no-nan f (fin s m e) (fin t n d) h k = sum-no-nan f s (m * up e * down d) t (n * up d * down e) (down e * down d)

neg_no_nan : (y : Float) → is_nan y ≡ false → is_nan (neg y) ≡ false
unfolding neg is_nan
neg_no_nan nan k = k
neg_no_nan (inf t) k = k
neg_no_nan (fin t n d) k = k

pub sub-no-nan : (f : Format) (x y : Float) → finite x ≡ true → is_nan y ≡ false → is_nan (sub f x y) ≡ false
unfolding sub
sub-no-nan f x y h k = add-no-nan f x (neg y) h (neg_no_nan y k)

-- ---- products and quotients

pub mul-no-nan : (f : Format) (s : Bool) (m : ℕ) (e : ℤ) (y : Float) → eqb m 0 ≡ false → is_nan y ≡ false → is_nan (mul f (fin s m e) y) ≡ false
unfolding mul is_nan
mul-no-nan f s m e nan h k = absurd (true≢false k)
mul-no-nan f s m e (inf t) h k = ap (λ (b : Bool). is_nan (cond b nan (inf (unlike s t)))) h
mul-no-nan f s m e (fin t n d) h k = round-no-nan f (unlike s t) (m * up e * (n * up d)) (down e * down d)

pub div-no-nan : (f : Format) (x : Float) (t : Bool) (n : ℕ) (d : ℤ) → eqb n 0 ≡ false → is_nan x ≡ false → is_nan (div f x (fin t n d)) ≡ false
unfolding div is_nan
div-no-nan f nan t n d h k = absurd (true≢false k)
div-no-nan f (inf s) t n d h k = refl
div-no-nan f (fin s m e) t n d h k = rw h (round-no-nan f (unlike s t) (m * up e * down d) (n * up d * down e))

-- a finite value is no NaN
pub finite-no-nan : (x : Float) → finite x ≡ true → is_nan x ≡ false
unfolding finite is_nan
finite-no-nan nan h = absurd (true≢false (sym h))
finite-no-nan (inf s) h = refl
finite-no-nan (fin s m e) h = refl
