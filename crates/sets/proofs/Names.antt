-- Names of sets: the three spellings and no other are taken. Assumes nothing.
use mathlib.Core.Path.{◌≡◌, refl, ap, ap₂}
use mathlib.Core.Bool.{Bool, true, false, ◌&&◌, false≢true}
use mathlib.Core.List.{List, [], ◌∷◌}
use Prim.Native.Nat.{ℕ}
use lib.Dec.{eqb}
use lib.Pointwise.{pointwise}
use borrow.Author.Tests.{eqb-true, eq-eqb}
use Rattle.laws.specs.Refusals.{first_of}
use Rattle.laws.proofs.Bools.{both}
use Rattle.sets.specs.Calls.{same, shewhart, nelson, western_electric, set_named}

-- ---- spelt the same

pub same_self : (a : List ℕ) → same a a ≡ true
unfolding same
same_self [] = refl
same_self (x ∷ xs) = ap₂ ◌&&◌ (eq-eqb x x refl) (same_self xs)

pub same-one : (a b : List ℕ) → same a b ≡ true → a ≡ b
unfolding same
same-one [] [] e = refl
same-one [] (y ∷ ys) e = absurd (false≢true e)
same-one (x ∷ xs) [] e = absurd (false≢true e)
same-one (x ∷ xs) (y ∷ ys) e =
    let holds = both (eqb x y) (same xs ys) e in
    ap₂ ◌∷◌ (eqb-true x y holds.0) (same-one xs ys holds.1)

-- what the language compares two slices by
pub pointwise-same : (a b : List ℕ) → pointwise eqb a b ≡ same a b
unfolding same
pointwise-same [] [] = refl
pointwise-same [] (y ∷ ys) = refl
pointwise-same (x ∷ xs) [] = refl
pointwise-same (x ∷ xs) (y ∷ ys) = ap (λ (t : Bool). eqb x y && t) (pointwise-same xs ys)

-- ---- the three names, compared in their order

module _ (name : List ℕ) where
  pub first-named : same name shewhart ≡ true → set_named name ≡ (0, 1)
  unfolding set_named first_of
  first-named p = simp p

  pub second-named : same name shewhart ≡ false → same name nelson ≡ true → set_named name ≡ (0, 255)
  unfolding set_named first_of
  second-named p q = simp (p, q)

  pub third-named : same name shewhart ≡ false → same name nelson ≡ false → same name western_electric ≡ true
      → set_named name ≡ (0, 305)
  unfolding set_named first_of
  third-named p q r = simp (p, q, r)

  pub none_named : same name shewhart ≡ false → same name nelson ≡ false → same name western_electric ≡ false
      → set_named name ≡ (13, 0)
  unfolding set_named first_of
  none_named p q r = simp (p, q, r)

pub shewhart-named : set_named shewhart ≡ (0, 1)
unfolding set_named first_of same
shewhart-named = refl

pub nelson-named : set_named nelson ≡ (0, 255)
unfolding set_named first_of same
nelson-named = refl

pub western-electric-named : set_named western_electric ≡ (0, 305)
unfolding set_named first_of same
western-electric-named = refl

-- every other name is refused
pub other-named : (name : List ℕ) → (name ≡ shewhart → ⊥) → (name ≡ nelson → ⊥) → (name ≡ western_electric → ⊥)
    → set_named name ≡ (13, 0)
other-named name p q r = none_named name (differs shewhart p) (differs nelson q) (differs western_electric r)
  where
    differs : (other : List ℕ) → (name ≡ other → ⊥) → same name other ≡ false
    differs other ne = by (same name other) refl
      where
        by : (t : Bool) → same name other ≡ t → same name other ≡ false
        by false e = e
        by true e = absurd (ne (same-one name other e))
