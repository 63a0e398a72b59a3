-- A rule set's number and its tests: a set is made of its tests and known by them. Assumes nothing.
use mathlib.Core.Path.{◌≡◌, refl, sym, ap, ◌∙◌, fun_ext}
use mathlib.Core.Bool.{Bool, true, false, ◌&&◌, cond, false≢true}
use mathlib.Core.List.{List, map}
use Prim.Native.Nat.{ℕ, ◌≤◌, ◌<◌}
use native.Mathlib.Omega.{arith}
use lib.ListN.{get_or, get_or-map}
use lib.Dec.{ltb}
use lib.Bits.{bit_and, and_le_r}
use borrow.Author.Tests.{ltb-true, ltb-false, lt-ltb, le-ltb}
use Rattle.std.specs.Prelude.{Option, Some, None}
use Rattle.laws.specs.Lists.{tabulate_from}
use Rattle.laws.proofs.Lists.{get_d_tabulate}
use Rattle.laws.proofs.Bits.{has-and, from_bits-lt, has-from_bits}
use Rattle.laws.proofs.FirstBits.{bits-again}
use Rattle.sets.specs.declared.Test.{Test}
use Rattle.sets.specs.declared.Test.TheVariants.{BeyondLimits, NineOneSide, SixTrend, FourteenAlternating, TwoOfThreeBeyond2Sigma, FourOfFiveBeyond1Sigma, FifteenWithin1Sigma, EightBeyond1Sigma, EightOneSide}
use Rattle.sets.specs.Sets.{bit_of, tests, test_of, test_at, has, set_of}

-- ---- the list of the tests, row by row; all else goes for every test at once

-- what stands for a test in a list made from the tests
pub at-bit : {A : Type 0} (f : Test → A) (d : A) (t : Test) → get_or (map f tests) (bit_of t) d ≡ f t
unfolding tests bit_of
at-bit f d BeyondLimits = refl
at-bit f d NineOneSide = refl
at-bit f d SixTrend = refl
at-bit f d FourteenAlternating = refl
at-bit f d TwoOfThreeBeyond2Sigma = refl
at-bit f d FourOfFiveBeyond1Sigma = refl
at-bit f d FifteenWithin1Sigma = refl
at-bit f d EightBeyond1Sigma = refl
at-bit f d EightOneSide = refl

-- what agrees in the list agrees for each test
pub agree : {A : Type 0} (f g : Test → A) → A → map f tests ≡ map g tests → (t : Test) → f t ≡ g t
agree f g d e t = sym (at-bit f d t) ∙ ap (λ (l : List _). get_or l (bit_of t) d) e ∙ at-bit g d t

pub bit_of-lt : (t : Test) → bit_of t < 9
unfolding tests bit_of
bit_of-lt t = ltb-true (bit_of t) 9 (agree (λ (u : Test). ltb (bit_of u) 9) (λ (u : Test). true) true refl t)

-- ---- the test of a bit number

pub bit-of-test : (bit : ℕ) → bit < 9 → bit_of (test_of bit) ≡ bit
unfolding test_of tests bit_of tabulate_from
bit-of-test bit h = sym (get_or-map bit_of tests bit BeyondLimits) ∙ get_d_tabulate (λ k. k) 9 bit 0 h

pub test-of-bit : (t : Test) → test_of (bit_of t) ≡ t
unfolding test_of
test-of-bit t = sym (get_or-map (λ u. u) tests (bit_of t) BeyondLimits) ∙ at-bit (λ u. u) BeyondLimits t

pub found : (bit : ℕ) → bit < 9 → test_at bit ≡ Some (test_of bit)
unfolding test_at tests
found bit h = ap (λ (b : Bool). cond b (Some (test_of bit)) None) (lt-ltb bit 9 h)

pub not_found : (bit : ℕ) → 9 ≤ bit → test_at bit ≡ None
unfolding test_at tests
not_found bit h = ap (λ (b : Bool). cond b (Some (test_of bit)) None) (le-ltb bit 9 h)

-- whether there is one, and which
abbrev told : Option Test → Bool × Test
told (Some t) = (true, t)
told None = (false, BeyondLimits)

pub was-found : (bit : ℕ) (t : Test) → test_at bit ≡ Some t → (bit < 9) × (test_of bit ≡ t)
was-found bit t e = by (ltb bit 9) refl
  where
    by : (b : Bool) → ltb bit 9 ≡ b → (bit < 9) × (test_of bit ≡ t)
    by true h =
        let below = ltb-true bit 9 h in
        (below, ap (λ f. (told f).1) (sym (found bit below) ∙ e))
    by false h = absurd (false≢true (ap (λ f. (told f).0) (sym (not_found bit (ltb-false bit 9 h)) ∙ e)))

pub was-nothing : (bit : ℕ) → test_at bit ≡ None → 9 ≤ bit
was-nothing bit e = by (ltb bit 9) refl
  where
    by : (b : Bool) → ltb bit 9 ≡ b → 9 ≤ bit
    by true h = absurd (false≢true (ap (λ f. (told f).0) (sym e ∙ found bit (ltb-true bit 9 h))))
    by false h = ltb-false bit 9 h

-- ---- sets

-- the set made of some tests has just these
pub has-set_of : (p : Test → Bool) (t : Test) → has (set_of p) t ≡ p t
unfolding has set_of
has-set_of p t = has-from_bits (map p tests) (bit_of t) ∙ at-bit p false t

pub set_of-lt : (p : Test → Bool) → set_of p < 512
unfolding set_of tests
set_of-lt p = from_bits-lt (map p tests)

-- a set is made of the tests that it has
pub set_of-has : (set : ℕ) → set ≤ 511 → set_of (has set) ≡ set
unfolding set_of has tests bit_of
set_of-has set h = bits-again 9 set (omega arith)

-- a set is known by its tests
pub known-by-tests : (set : ℕ) (p : Test → Bool) → set ≤ 511 → ((t : Test) → has set t ≡ p t) → set ≡ set_of p
known-by-tests set p h f = sym (set_of-has set h) ∙ ap set_of (fun_ext f)

-- the and of a set and of some tests has those of the tests that the set has
pub and-set_of : (set : ℕ) (p : Test → Bool) → bit_and set (set_of p) ≡ set_of (λ t. has set t && p t)
and-set_of set p =
    known-by-tests (bit_and set (set_of p)) (λ (t : Test). has set t && p t) (omega (arith, and_le_r set (set_of p), set_of-lt p))
    (λ t. unfold has in has-and set (set_of p) (bit_of t) ∙ ap (λ (b : Bool). has set t && b) (has-set_of p t))
