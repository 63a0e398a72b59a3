-- What is not finite stays so: a sum with it, a product with it, and it divided. Assumes nothing.
use mathlib.Core.Path.{◌≡◌, refl, sym}
use mathlib.Core.Bool.{Bool, true, false, beq, cond, true≢false}
use lib.Dec.{eqb}
use lib.Ieee.{Float, nan, inf, fin, Format, add, mul, div, unlike}
use Rattle.floats.specs.Finite.{finite}

pub finite-sum : (f : Format) (x y : Float) → finite (add f x y) ≡ true → (finite x ≡ true) × (finite y ≡ true)
unfolding add finite
finite-sum f nan y h = absurd (true≢false (sym h))
finite-sum f (inf s) nan h = absurd (true≢false (sym h))
finite-sum f (inf s) (inf t) h = absurd (by (beq s t) h)
  where
    by : (b : Bool) → finite (cond b (inf s) nan) ≡ true → ⊥
    by true e = true≢false (sym e)
    by false e = true≢false (sym e)
finite-sum f (inf s) (fin t n d) h = absurd (true≢false (sym h))
finite-sum f (fin s m e) nan h = absurd (true≢false (sym h))
finite-sum f (fin s m e) (inf t) h = absurd (true≢false (sym h))
finite-sum f (fin s m e) (fin t n d) h = (refl, refl)

neither : (b s : Bool) → finite (cond b nan (inf s)) ≡ true → ⊥
unfolding finite
neither true s e = true≢false (sym e)
neither false s e = true≢false (sym e)

pub finite-product : (f : Format) (x y : Float) → finite (mul f x y) ≡ true → (finite x ≡ true) × (finite y ≡ true)
unfolding mul finite
finite-product f nan y h = absurd (true≢false (sym h))
finite-product f (inf s) nan h = absurd (true≢false (sym h))
finite-product f (inf s) (inf t) h = absurd (true≢false (sym h))
finite-product f (inf s) (fin t n d) h = absurd (neither (eqb n 0) (unlike s t) h)
finite-product f (fin s m e) nan h = absurd (true≢false (sym h))
finite-product f (fin s m e) (inf t) h = absurd (neither (eqb m 0) (unlike s t) h)
finite-product f (fin s m e) (fin t n d) h = (refl, refl)

pub finite-quotient : (f : Format) (x y : Float) → finite (div f x y) ≡ true → finite x ≡ true
unfolding div finite
finite-quotient f nan y h = absurd (true≢false (sym h))
finite-quotient f (inf s) nan h = absurd (true≢false (sym h))
finite-quotient f (inf s) (inf t) h = absurd (true≢false (sym h))
finite-quotient f (inf s) (fin t n d) h = absurd (true≢false (sym h))
finite-quotient f (fin s m e) y h = refl
