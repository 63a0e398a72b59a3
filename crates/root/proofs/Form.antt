-- The form s * 2^(p + 55), with s of 53 binary digits, that each finite f64 above 0 has when it is taken times 4^591. Assumes nothing.
use Rattle.std.proofs.Common.{◌≡◌, ℕ, suc, ◌+◌, ◌-◌, ◌*◌, ◌^◌, ◌<◌, ◌≤◌, Bool, T, ℤ, sym, ap, ◌∙◌, subst, lt_of_le_of_lt, mul-le-mul_right, zero-lt-suc, mul_assoc, lt_of_mul-lt-mul_right, mul-lt-mul_of_pos_right, mul_right_comm, arith, pow-add, shl_lt}
use lib.Ieee.{fin, binary64, size, fits, up, down}
use lib.Ieee.Digits.{size-lt, size-le, size_reaches}
use Rattle.root.specs.Root.{scaled}
use Rattle.root.specs.Steps.{Form}
use Rattle.root.proofs.Squares.{power-lt-back, four-positive}
use Rattle.root.proofs.Format.{fitting}
use Rattle.root.proofs.Scaled.{units, scaled-is, scaled_exact}

-- from a number q whose top digit stands at z
pub form-up : (q z j : ℕ) → 2 ^ z ≤ q → q < 2 ^ suc z → z ≤ 52 → 108 ≤ j + z → j + z ≤ 2205 → Form (q * 2 ^ j) (q * 2 ^ (52 - z)) (j + z - 107)
form-up q z j lo hi zl first last =
    let u = 52 - z in
    let p = j + z - 107 in
    let at-lo : z + u ≡ 52 = omega arith in
    let at-hi : suc z + u ≡ 53 = omega arith in
    let all : j ≡ u + (p + 55) = omega arith in
    record {
      least = subst (λ (y : ℕ). 2 ^ y ≤ q * 2 ^ u) at-lo (rw (pow-add 2 z u) (mul-le-mul_right (2 ^ u) lo));
      most = subst (λ (y : ℕ). q * 2 ^ u < 2 ^ y) at-hi (shl_lt (suc z) u hi);
      first = omega arith;
      last = omega arith;
      is = ap (λ (y : ℕ). q * 2 ^ y) all ∙ rw (pow-add 2 u (p + 55)) (sym (mul_assoc q (2 ^ u) (2 ^ (p + 55))));
    }

pub top_digit : (n j : ℕ) → 2 ^ j ≤ n → j < size n
top_digit n j h = power-lt-back j (size n) (lt_of_le_of_lt h (size-lt n))

formed : (q j : ℕ) → 0 < q → q < 2 ^ 53 → 108 ≤ j → q * 2 ^ j < 2 ^ 2206 → Form (q * 2 ^ j) (q * 2 ^ (52 - (size q - 1))) (j + (size q - 1) - 107)
formed q j some small far fits =
    let z = size q - 1 in
    let positive : 0 < size q = top_digit q 0 some in
    let short : size q ≤ 53 = size-le q 53 small in
    let lo : 2 ^ z ≤ q = size_reaches q z (omega arith) in
    let hi : q < 2 ^ suc z = subst (λ (y : ℕ). q < 2 ^ y) (omega arith) (size-lt q) in
    let top : 2 ^ (z + j) ≤ q * 2 ^ j = rw (pow-add 2 z j) (mul-le-mul_right (2 ^ j) lo) in
    form-up q z j lo hi (omega arith) (omega arith) (omega (arith, power-lt-back (z + j) 2206 (lt_of_le_of_lt top fits)))

-- every finite f64 above 0
pub form_of : (s : Bool) (m : ℕ) (e : ℤ) → T (fits binary64 (fin s (suc m) e)) → (t : ℕ) × (p : ℕ) × Form (scaled (fin s (suc m) e)) t p
form_of s m e t =
    let q = suc m in
    let g = fitting s m e t in
    let j = (units e g.fine).0 + 108 in
    let is = scaled-is s q e g.fine in
    let limit : q * up e * 4 ^ 591 < 2 ^ 2206 * down e =
    rw (← mul_right_comm (2 ^ 1024) (down e) (4 ^ 591)) (mul-lt-mul_of_pos_right g.bounded (four-positive 591)) in
    let under : scaled (fin s q e) < 2 ^ 2206 = lt_of_mul-lt-mul_right (down e) (rw (scaled_exact s q e g.fine) limit) in
    (q * 2 ^ (52 - (size q - 1)), j + (size q - 1) - 107, rw is (formed q j (zero-lt-suc m) g.short (omega arith) (rw is at under)))
