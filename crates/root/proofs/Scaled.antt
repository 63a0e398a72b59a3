-- `scaled`: for each finite f64 x * 4^591 is a whole number, a multiple of a power of two, so the division in the definition leaves nothing.
-- Assumes nothing.
use Rattle.std.proofs.Common.{◌≡◌, ℕ, suc, ◌+◌, ◌-◌, ◌*◌, ◌/◌, ◌^◌, ◌≤◌, Bool, ℤ, pos, negsuc, sym, refl, ap, ◌∙◌, mul_assoc, one-mul, mul-one, mul_right_comm, mul-div_cancel, arith, pow-add}
use lib.Ieee.{Float, nan, inf, fin, up, down}
use lib.Ieee.Exact.{HasValue}
use lib.Ieee.Fits.{down_pos}
use Rattle.root.specs.Root.{scaled}
use Rattle.root.proofs.Squares.{power-le-back}

-- of a number that is known in units of the smallest subnormal
pub scaled-units : (x : Float) (s : Bool) (a : ℕ) → HasValue x s a (2 ^ 1074) → scaled x ≡ a * 2 ^ 108
unfolding scaled
scaled-units nan s a v = absurd v
scaled-units (inf t) s a v = absurd v
scaled-units (fin t m e) s a v =
    let whole : m * up e * 4 ^ 591 ≡ a * 2 ^ 108 * down e =
    sym (mul_assoc (m * up e) (2 ^ 1074) (2 ^ 108)) ∙ ap (λ (y : ℕ). y * 2 ^ 108) v.1 ∙ mul_right_comm a (down e) (2 ^ 108) in
    ap (λ (y : ℕ). y / down e) whole ∙ mul-div_cancel (a * 2 ^ 108) (down_pos e)

-- an f64's power of two is a whole number of those units, itself a power of two
pub units : (e : ℤ) → down e ≤ 2 ^ 1074 → (j : ℕ) × (up e * 2 ^ 1074 ≡ 2 ^ j * down e)
units (pos a) h = (a + 1074, sym (pow-add 2 a 1074) ∙ sym (mul-one (2 ^ (a + 1074))))
units (negsuc a) h =
    let le : suc a ≤ 1074 = power-le-back (suc a) 1074 h in
    let all : 1074 - suc a + suc a ≡ 1074 = omega arith in
    (1074 - suc a, one-mul (2 ^ 1074) ∙ ap (λ (y : ℕ). 2 ^ y) (sym all) ∙ pow-add 2 (1074 - suc a) (suc a))

module _ (s : Bool) (q : ℕ) (e : ℤ) (h : down e ≤ 2 ^ 1074) where
  in-units : q * up e * 2 ^ 1074 ≡ q * 2 ^ (units e h).0 * down e
  in-units = mul_assoc q (up e) (2 ^ 1074) ∙ ap (λ (y : ℕ). q * y) (units e h).1 ∙ sym (mul_assoc q (2 ^ (units e h).0) (down e))

  pub scaled-is : scaled (fin s q e) ≡ q * 2 ^ ((units e h).0 + 108)
  scaled-is = scaled-units (fin s q e) s (q * 2 ^ (units e h).0) (refl, in-units) ∙ rw pow-add (mul_assoc q (2 ^ (units e h).0) (2 ^ 108))

  pub scaled_exact : scaled (fin s q e) * down e ≡ q * up e * 4 ^ 591
  scaled_exact =
      ap (λ (y : ℕ). y * down e) (scaled-units (fin s q e) s (q * 2 ^ (units e h).0) (refl, in-units))
      ∙ mul_right_comm (q * 2 ^ (units e h).0) (2 ^ 108) (down e)
      ∙ ap (λ (y : ℕ). y * 2 ^ 108) (sym in-units)
      ∙ mul_assoc (q * up e) (2 ^ 1074) (2 ^ 108)
