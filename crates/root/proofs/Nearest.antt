-- From the whole part of a root, with one digit more than an f64 holds, to the nearest f64: half of it, rounded up, passes the two tests.
-- Assumes nothing.
use Rattle.std.proofs.Common.{◌≡◌, ℕ, ◌+◌, ◌-◌, ◌*◌, ◌/◌, ◌^◌, ◌<◌, ◌≤◌, le_of_eq, lt_of_lt_of_le, lt_of_le_of_lt, mul_assoc, mul-lt-mul_of_pos_right, mul_left_comm, arith, eq-eqb, ne_eqb}
use native.Mathlib.Decide.{dec_le}
use Rattle.root.specs.Root.{lower, upper}
use Rattle.root.proofs.Squares.{square-mono, square-back, square-odd, four-next, four-positive}

-- R is the whole part of the root of a * 2^54, and a has 53 binary digits, or it has 54 and is even
pub record Whole (a R : ℕ) : Type 0 where
  pub least : 2 ^ 52 ≤ a
  pub most : a + 2 ≤ 2 ^ 54
  pub under : R * R ≤ a * 2 ^ 54
  pub over : a * 2 ^ 54 < (R + 1) * (R + 1)

-- half of R, rounded up
abbrev pub rounded : ℕ → ℕ
rounded R = (R + 1) / 2

module _ {a R : ℕ} (w : Whole a R) where
  many : 2 ^ 53 ≤ R
  many =
      let big : 2 ^ 53 * 2 ^ 53 ≤ a * 2 ^ 54 = omega (arith, w.least) in
      omega (arith, square-back (2 ^ 53) (R + 1) (lt_of_le_of_lt big w.over))

  pub few : R < 2 ^ 54 - 1
  few =
      let big : a * 2 ^ 54 < (2 ^ 54 - 1) * (2 ^ 54 - 1) = omega (arith, w.most) in
      square-back R (2 ^ 54 - 1) (lt_of_le_of_lt w.under big)

  pub rounded-least : 2 ^ 52 ≤ rounded R
  rounded-least = omega (arith, many)

  pub rounded-most : rounded R < 2 ^ 53
  rounded-most = omega (arith, few)

  pub passes-upper : (k : ℕ) → a * 2 ^ 54 * 4 ^ (k + 1) < upper (rounded R) k
  unfolding upper
  passes-upper k = mul-lt-mul_of_pos_right (lt_of_lt_of_le w.over (square-mono (omega arith))) (four-positive (k + 1))

  -- no tie: an odd number's square is odd, and a * 2^54 is even
  under-it : (2 * rounded R - 1) * (2 * rounded R - 1) < a * 2 ^ 54
  under-it =
      let q = rounded R - 1 in
      let is : 2 * rounded R - 1 ≡ 2 * q + 1 = omega (arith, many) in
      let le : (2 * q + 1) * (2 * q + 1) ≤ R * R = square-mono (omega (arith, many)) in
      let lt : (2 * q + 1) * (2 * q + 1) < a * 2 ^ 54 = omega (arith, w.under, le, square-odd q) in
      rw is lt

  pub passes-lower : (k : ℕ) → lower (rounded R) k < a * 2 ^ 54 * 4 ^ (k + 1)
  unfolding lower
  passes-lower k = either (dec_le (rounded R) (2 ^ 52))
    where
      either : Dec (rounded R ≤ 2 ^ 52) → lower (rounded R) k < a * 2 ^ 54 * 4 ^ (k + 1)
      either (yes h) =
          let e : rounded R ≡ 2 ^ 52 = omega (arith, rounded-least) in
          rw (eq-eqb (rounded R) (2 ^ 52) e, e, four-next, mul_left_comm (a * 2 ^ 54) 4 (4 ^ k), ← mul_assoc 4 (a * 2 ^ 54) (4 ^ k))
          (mul-lt-mul_of_pos_right (omega (arith, w.least)) (four-positive k))
      either (no f) =
          rw (ne_eqb (rounded R) (2 ^ 52) (λ (e : rounded R ≡ 2 ^ 52). f (le_of_eq e)))
          (mul-lt-mul_of_pos_right under-it (four-positive (k + 1)))
