-- Two answers with one number and one value are one answer: so a promise on the number and the value fixes the answer. Assumes nothing.
use mathlib.Core.Path.{◌≡◌, refl, sym, ap}
use mathlib.Core.Bool.{true, false, false≢true}
use Prim.Native.Nat.{ℕ}
use Rattle.std.specs.Prelude.{Result, Ok, Err, is_err}
use Rattle.numbers.specs.Numbers.{numbered, answered}

-- The numbers of refusals are not 0 and tell them apart.
pub record Telling {E : Type 0} (number : E → ℕ) : Type 0 where
  pub not_done : (why : E) → 0 ≡ number why → ⊥
  pub one : (a b : E) → number a ≡ number b → a ≡ b

module _ {A E : Type 0} {number : E → ℕ} (tells : Telling number) where
  -- answers that have but one value where they are done
  pub numbered-one : ((a b : A) → a ≡ b) → (x y : Result A E) → numbered number x ≡ numbered number y → x ≡ y
  numbered-one one (Ok a) (Ok b) e = ap (λ (v : A). Ok v) (one a b)
  numbered-one one (Ok a) (Err y) e = absurd (tells.not_done y e)
  numbered-one one (Err x) (Ok b) e = absurd (tells.not_done x (sym e))
  numbered-one one (Err x) (Err y) e = ap (λ (w : E). Err w) (tells.one x y e)

  module _ {B : Type 0} (value : A → B) (nothing : B) (value-one : (a b : A) → value a ≡ value b → a ≡ b) where
    pub answered-one : (x y : Result A E) → answered number value nothing x ≡ answered number value nothing y → x ≡ y
    answered-one (Ok a) (Ok b) e = ap (λ (v : A). Ok v) (value-one a b (ap (λ p. p.1) e))
    answered-one (Ok a) (Err y) e = absurd (tells.not_done y (ap (λ p. p.0) e))
    answered-one (Err x) (Ok b) e = absurd (tells.not_done x (ap (λ p. p.0) (sym e)))
    answered-one (Err x) (Err y) e = ap (λ (w : E). Err w) (tells.one x y (ap (λ p. p.0) e))

  -- whether it is a refusal, by the number
  pub done-number : (x : Result A E) → is_err x ≡ false → numbered number x ≡ 0
  done-number (Ok a) e = refl
  done-number (Err why) e = absurd (false≢true (sym e))

  pub refused-number : (x : Result A E) → is_err x ≡ true → numbered number x ≡ 0 → ⊥
  refused-number (Ok a) e z = absurd (false≢true e)
  refused-number (Err why) e z = tells.not_done why (sym z)
