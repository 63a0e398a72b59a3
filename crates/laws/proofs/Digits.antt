-- Induction on the digits of a number, in any base. Assumes nothing.
use mathlib.Core.Path.{◌≡◌, refl}
use mathlib.Core.Bool.{Bool, true, false}
use Prim.Native.Nat.{ℕ, zero, suc, ◌/◌, ◌≤◌, ◌<◌}
use native.Mathlib.Nat.{div-lt_self}
use native.Mathlib.Omega.{arith}
use lib.Dec.{ltb}
use borrow.Author.Tests.{ltb-true, ltb-false}

-- Whatever holds of a number of one digit, and of a longer one where it holds of the digits in front of its last, holds of every number.
module _ (base : ℕ) (two : 1 < base) (P : ℕ → Type 0) (one : (x : ℕ) → x < base → P x) (more : (x : ℕ) → base ≤ x → P (x / base) → P x) where
  by_size : (k x : ℕ) (t : Bool) → ltb x base ≡ t → x ≤ suc k → ((y : ℕ) → y ≤ k → P y) → P x
  by_size k x true e h ih = one x (ltb-true x base e)
  by_size k x false e h ih =
      let long : base ≤ x = ltb-false x base e in
      more x long (ih (x / base) (omega (arith, div-lt_self {n = x} {k = base} (omega arith) two)))

  up_to : (k x : ℕ) → x ≤ k → P x
  up_to zero x h = one x (omega arith)
  up_to (suc k) x h = by_size k x (ltb x base) refl h (up_to k)

  pub by_digits : (x : ℕ) → P x
  by_digits x = up_to x x (omega arith)
