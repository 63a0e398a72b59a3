-- What `place` and `root_bits` need, in the terms of their code. Assumes nothing.
use Rattle.std.proofs.Common.{◌≡◌, ℕ, suc, ◌+◌, ◌-◌, ◌*◌, ◌/◌, ◌%◌, ◌^◌, ◌<◌, ◌≤◌, false, sym, ap, ◌∙◌, le_trans, lt_of_lt_of_le, lt_of_le_of_lt, mod-eq_of_lt, mul_assoc, mul-le-mul_left, lt_of_not-le, mul-one, not-le_of_lt, arith, lit≤, pow_pos, pow_mono, pow-add}
use lib.Bits.{bit_and, bit_or, and_mask, or_shifted_r}
use lib.Count.{count_leading_zeros, leading_top}
use lib.Ieee.{binary64, of_bits}
use Rattle.root.specs.Root.{scaled}
use Rattle.root.specs.Steps.{infinity, Places, RootBits}
use Rattle.root.proofs.Squares.{square-back}
use Rattle.root.proofs.Nearest.{rounded, rounded-least, rounded-most}
use Rattle.root.proofs.Scaled.{scaled-units}
use Rattle.root.proofs.Form.{form-up}
use Rattle.root.proofs.Halving.{lead, half, lead-most, WholeRoot, whole, found}
use Rattle.root.proofs.Patterns.{value-subnormal, value-normal, bits_of}

-- ---- `place`

-- the digits that a pattern holds, and how many zeros stand before them
abbrev kept : ℕ → ℕ
kept b = bit_and b 0xfffffffffffff

abbrev pub count : ℕ → ℕ
count b = count_leading_zeros 64 (kept b)

module _ (b : ℕ) (some : 0 < b) (low : b / 2 ^ 52 ≡ 0) where
  small : b < 2 ^ 52
  small = omega arith

  kept-is : kept b ≡ b
  kept-is = and_mask b 52 ∙ mod-eq_of_lt small

  -- z is the place of the top digit
  top : (z : ℕ) × (count b + suc z ≡ 64) × (2 ^ z ≤ b) × (b < 2 ^ suc z) × (z < 52)
  top =
      let t = leading_top 64 b some (omega (arith, small)) in
      (t.0, rw kept-is t.1, t.2, t.3, lt_of_not-le (λ (g : 52 ≤ t.0). not-le_of_lt small (le_trans (pow_mono g) t.2)))

  pub count-in : (11 ≤ count b) × (count b < 64)
  count-in = omega (arith, top.1, top.4)

  pub places-subnormal : Places b (kept b * 2 ^ (count b - 11) % 2 ^ 64) (53 - (count b - 11))
  places-subnormal =
      let z = top.0 in
      let z-lt : z < 52 = top.4 in
      let f = form-up b z 108 top.2 top.3 (omega arith) (omega arith) (omega arith) in
      let up : count b - 11 ≡ 52 - z = omega (arith, top.1) in
      let p : 53 - (52 - z) ≡ 108 + z - 107 = omega arith in
      let value : scaled (of_bits binary64 b) ≡ b * 2 ^ 108 =
      scaled-units (of_bits binary64 b) false (b * 2 ^ 0) (value-subnormal b small) ∙ ap (λ (y : ℕ). y * 2 ^ 108) (mul-one b) in
      rw (up, kept-is, p, mod-eq_of_lt (lt_of_lt_of_le f.most (lit≤ tt)), value) f

pub places-normal : (b : ℕ) → 2 ^ 52 ≤ b → b < infinity → Places b (bit_or (kept b) 0x10000000000000) (b / 2 ^ 52 + 52)
places-normal b l h =
    let t = b % 2 ^ 52 in
    let q = 2 ^ 52 + t in
    let x = b / 2 ^ 52 - 1 in
    let f = form-up q 52 (x + 108) (omega arith) (omega arith) (omega arith) (omega arith) (omega arith) in
    let digits : bit_or (kept b) 0x10000000000000 ≡ q * 2 ^ 0 =
    ap (λ (y : ℕ). bit_or y 0x10000000000000) (and_mask b 52) ∙ or_shifted_r 1 52 t (omega arith) ∙ sym (mul-one q) in
    let p : b / 2 ^ 52 + 52 ≡ x + 108 + 52 - 107 = omega arith in
    let value : scaled (of_bits binary64 b) ≡ q * 2 ^ (x + 108) =
    scaled-units (of_bits binary64 b) false (q * 2 ^ x) (value-normal b l h) ∙ rw (pow-add 2 x 108) (mul_assoc q (2 ^ x) (2 ^ 108)) in
    rw (digits, p, value) f

-- ---- `root_bits`

-- the `lead` of `Halving.antt`
abbrev shifted : ℕ → ℕ → ℕ
shifted s p = s * 2 ^ (1 - bit_and p 1) % 2 ^ 64

shifted-is : (s p : ℕ) → s < 2 ^ 53 → shifted s p ≡ lead s p
shifted-is s p h = rw (and_mask p 1) (mod-eq_of_lt (omega (arith, lead-most s p h)))

-- one digit more, and the root of that, whichever the parity
pub shifted_fits : (s d : ℕ) → s < 2 ^ 53 → d ≤ 1 → s * 2 ^ d % 2 ^ 64 < 2 ^ 54
shifted_fits s d h one = omega (arith, mul-le-mul_left s (pow_mono one))

pub shifted_least : (s d : ℕ) → 2 ^ 52 ≤ s → s < 2 ^ 53 → d ≤ 1 → 2 ^ 52 ≤ s * 2 ^ d % 2 ^ 64
shifted_least s d least most one = omega (arith, mul-le-mul_left s (pow_mono one), mul-le-mul_left s (pow_pos d))

pub root-fits : (a R : ℕ) → a < 2 ^ 54 → R * R ≤ a * 2 ^ 54 → R + 1 < 2 ^ 64
root-fits a R h under =
    let big : a * 2 ^ 54 < 2 ^ 54 * 2 ^ 54 = omega arith in
    omega (arith, square-back R (2 ^ 54) (lt_of_le_of_lt under big))

module _ (b s p R : ℕ) (f : Places b s p) (w : (R * R ≤ shifted s p * 2 ^ 54) × (shifted s p * 2 ^ 54 < (R + 1) * (R + 1))) where
  root-of : WholeRoot s p R
  root-of = rw (shifted-is s p f.most) at w

  pub finished : RootBits b ((half p + 485) * 2 ^ 52 % 2 ^ 64 + rounded R)
  finished =
      let m = rounded R in
      let k = half p in
      let k-most : k ≤ 1048 = omega (arith, f.last) in
      let m-least : 2 ^ 52 ≤ m = rounded-least (whole R f root-of) in
      let m-most : m < 2 ^ 53 = rounded-most (whole R f root-of) in
      let fits : (k + 485) * 2 ^ 52 < 2 ^ 64 = omega arith in
      rw (mod-eq_of_lt fits)
      (record { finite = omega arith; root = rw (bits_of m k m-least m-most (omega arith)) (found (of_bits binary64 b) s p R f root-of) })
