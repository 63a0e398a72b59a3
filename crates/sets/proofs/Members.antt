-- Which tests a set has: after with and without, and of each named set. Assumes nothing.
use mathlib.Core.Path.{◌≡◌, refl, sym, ap, ◌∙◌}
use mathlib.Core.Bool.{Bool, true, false, ◌&&◌, ◌||◌, not, cond, or-true, or-false, and-true, and-false}
use Prim.Native.Nat.{ℕ, ◌≤◌, ◌<◌}
use native.Mathlib.Omega.{arith}
use lib.Dec.{ltb}
use borrow.Author.Tests.{lt-ltb, le-ltb, ltb-true, ltb-false, eq-eqb}
use Rattle.laws.specs.Bits.{has_bit}
use Rattle.laws.specs.Refusals.{first_of}
use Rattle.sets.specs.declared.Test.{Test}
use Rattle.sets.specs.declared.Test.TheVariants.{BeyondLimits, TwoOfThreeBeyond2Sigma, FourOfFiveBeyond1Sigma, EightOneSide}
use Rattle.sets.specs.Sets.{bit_of, tests, has, set_of}
use Rattle.sets.specs.Calls.{is, unless_too_large, with_test, without_test}
use Rattle.sets.proofs.Sets.{agree, has-set_of, set_of-lt}

-- ---- refused over 511, and only there

module _ {A : Type 0} (set : ℕ) (nothing done : A) where
  pub too_large : 511 < set → unless_too_large set nothing done ≡ (4, nothing)
  unfolding first_of
  too_large h = ap (λ (b : Bool). cond b (4, nothing) (0, done)) (lt-ltb 511 set h)

  pub in-range : set ≤ 511 → unless_too_large set nothing done ≡ (0, done)
  unfolding first_of
  in-range h = ap (λ (b : Bool). cond b (4, nothing) (0, done)) (le-ltb 511 set h)

  -- where the number is 0, the set was in range and the value is what is done
  pub was-done : (x : A) → unless_too_large set nothing done ≡ (0, x) → (set ≤ 511) × (done ≡ x)
  unfolding first_of
  was-done x e = by (ltb 511 set) refl
    where
      by : (b : Bool) → ltb 511 set ≡ b → (set ≤ 511) × (done ≡ x)
      by true over = absurd (let z : ◌≡◌ {A = ℕ} 4 0 = ap (λ p. p.0) (sym (too_large (ltb-true 511 set over)) ∙ e) in omega arith)
      by false within = (ltb-false 511 set within, ap (λ p. p.1) (sym (in-range (ltb-false 511 set within)) ∙ e))

is-self : (t : Test) → is t t ≡ true
is-self t = eq-eqb (bit_of t) (bit_of t) refl

-- ---- a set with t has t, and every other test as before

module _ (set : ℕ) (t : Test) (after : ℕ) (gives : with_test set t ≡ (0, after)) where
  with-made : set_of (λ u. has set u || is t u) ≡ after
  unfolding with_test
  with-made = (was-done set 0 (set_of (λ u. has set u || is t u)) after gives).1

  pub with-tests : (u : Test) → has after u ≡ (has set u || is t u)
  with-tests u = ap (λ (n : ℕ). has n u) (sym with-made) ∙ has-set_of (λ v. has set v || is t v) u

  pub with_it : has after t ≡ true
  with_it = with-tests t ∙ ap (λ (b : Bool). has set t || b) (is-self t) ∙ or-true (has set t)

  pub with-others : (u : Test) → is t u ≡ false → has after u ≡ has set u
  with-others u other = with-tests u ∙ ap (λ (b : Bool). has set u || b) other ∙ or-false (has set u)

  pub with-in-range : after < 512
  with-in-range = omega (arith, with-made, set_of-lt (λ u. has set u || is t u))

-- ---- a set without t does not have t, and has every other test as before

module _ (set : ℕ) (t : Test) (after : ℕ) (gives : without_test set t ≡ (0, after)) where
  without-made : set_of (λ u. has set u && not (is t u)) ≡ after
  unfolding without_test
  without-made = (was-done set 0 (set_of (λ u. has set u && not (is t u))) after gives).1

  pub without-tests : (u : Test) → has after u ≡ (has set u && not (is t u))
  without-tests u = ap (λ (n : ℕ). has n u) (sym without-made) ∙ has-set_of (λ v. has set v && not (is t v)) u

  pub without-it : has after t ≡ false
  without-it = without-tests t ∙ ap (λ (b : Bool). has set t && not b) (is-self t) ∙ and-false (has set t)

  pub without-others : (u : Test) → is t u ≡ false → has after u ≡ has set u
  without-others u other = without-tests u ∙ ap (λ (b : Bool). has set u && not b) other ∙ and-true (has set u)

  pub without-in-range : after < 512
  without-in-range = omega (arith, without-made, set_of-lt (λ u. has set u && not (is t u)))

-- ---- the tests of each named set

pub shewhart-tests : (t : Test) → has 1 t ≡ is BeyondLimits t
unfolding has has_bit tests bit_of
shewhart-tests = agree (has 1) (is BeyondLimits) false refl

pub nelson-tests : (t : Test) → has 255 t ≡ not (is EightOneSide t)
unfolding has has_bit tests bit_of
nelson-tests = agree (has 255) (λ t. not (is EightOneSide t)) false refl

pub western-electric-tests : (t : Test)
    → has 305 t ≡ (is BeyondLimits t || is TwoOfThreeBeyond2Sigma t || is FourOfFiveBeyond1Sigma t || is EightOneSide t)
unfolding has has_bit tests bit_of
western-electric-tests =
    agree
    (has 305)
    (λ t. is BeyondLimits t || is TwoOfThreeBeyond2Sigma t || is FourOfFiveBeyond1Sigma t || is EightOneSide t)
    false
    refl

pub none-tests : (t : Test) → has 0 t ≡ false
unfolding has has_bit tests bit_of
none-tests = agree (has 0) (λ t. false) false refl

pub all-tests : (t : Test) → has 511 t ≡ true
unfolding has has_bit tests bit_of
all-tests = agree (has 511) (λ t. true) false refl
