-- What the code makes of a mask is what the definitions of the calls say. Assumes nothing.
use mathlib.Core.Path.{◌≡◌, sym, ap, ◌∙◌}
use mathlib.Core.Bool.{Bool, false, ◌&&◌, ◌||◌, not}
use mathlib.Core.List.{map}
use Prim.Native.Nat.{ℕ, ◌-◌, ◌^◌, ◌≤◌, ◌<◌}
use native.Mathlib.Omega.{arith}
use lib.Dec.{eqb}
use lib.Bits.{bit_and, bit_or, and_le_l, or_lt}
use lib.Count.{ones}
use lib.Pow.{pow-lt}
use Rattle.laws.proofs.Bits.{has-and, has-or}
use Rattle.laws.proofs.OneBit.{has-pow, has-not, test-pow}
use Rattle.laws.proofs.FirstBits.{ones-from_bits}
use Rattle.sets.specs.declared.Test.{Test}
use Rattle.sets.specs.Sets.{bit_of, tests, has, set_of}
use Rattle.sets.specs.Calls.{is, with_test, without_test, has_test, how_many}
use Rattle.sets.proofs.Sets.{bit_of-lt, set_of-has, known-by-tests}
use Rattle.sets.proofs.Members.{in-range}

-- `one` is the mask of the test, and 65535 - one what the code's `!` makes of it.

module _ (set : ℕ) (t : Test) (one : ℕ) (one-is : one ≡ 2 ^ bit_of t) (h : set ≤ 511) where
  pub with-is : (0, bit_or set one) ≡ with_test set t
  unfolding with_test has
  with-is =
      let below : bit_or set (2 ^ bit_of t) < 2 ^ 9 = or_lt 9 set (2 ^ bit_of t) (omega arith) (pow-lt (bit_of-lt t)) in
      let made = known-by-tests (bit_or set (2 ^ bit_of t)) (λ u. has set u || is t u) (omega arith)
      (λ u. has-or set (2 ^ bit_of t) (bit_of u) ∙ ap (λ (b : Bool). has set u || b) (has-pow (bit_of t) (bit_of u))) in
      ap (λ (m : ℕ). (0, m)) (ap (bit_or set) one-is ∙ made) ∙ sym (in-range set 0 _ h)

  pub without_is : (0, bit_and set (65535 - one)) ≡ without_test set t
  unfolding without_test has
  without_is =
      let narrow : bit_of t < 16 = omega (arith, bit_of-lt t) in
      let small : 2 ^ bit_of t < 2 ^ 16 = pow-lt narrow in
      let below : bit_and set (65535 - 2 ^ bit_of t) ≤ 511 = omega (arith, and_le_l set (65535 - 2 ^ bit_of t)) in
      let made = known-by-tests (bit_and set (65535 - 2 ^ bit_of t)) (λ u. has set u && not (is t u)) below
      (λ u. has-and set (65535 - 2 ^ bit_of t) (bit_of u) ∙ ap (λ (b : Bool). has set u && b)
      (has-not 16 (2 ^ bit_of t) (bit_of u) small (omega (arith, bit_of-lt u)) ∙ ap not (has-pow (bit_of t) (bit_of u)))) in
      ap (λ (m : ℕ). (0, m)) (ap (λ (m : ℕ). bit_and set (65535 - m)) one-is ∙ made) ∙ sym (in-range set 0 _ h)

  pub contains-is : (0, not (eqb (bit_and set one) 0)) ≡ has_test set t
  unfolding has_test has
  contains-is =
      ap (λ (b : Bool). (0, b)) (ap (λ (m : ℕ). not (eqb (bit_and set m) 0)) one-is ∙ test-pow set (bit_of t))
      ∙ sym (in-range set false _ h)

pub len_is : (set : ℕ) → set ≤ 511 → (0, ones set) ≡ how_many set
unfolding how_many set_of
len_is set h =
    ap (λ (n : ℕ). (0, n)) (ap ones (sym (set_of-has set h)) ∙ ones-from_bits (map (has set) tests)) ∙ sym (in-range set 0 _ h)
