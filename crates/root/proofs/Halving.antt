-- The exponent halved: a number of the form s * 2^(p + 55) is a * 2^54 * 4^(k + 1), so the root of a * 2^54 gives the number's. Assumes nothing.
use Rattle.std.proofs.Common.{◌≡◌, ℕ, ◌+◌, ◌-◌, ◌*◌, ◌/◌, ◌%◌, ◌^◌, ◌<◌, ◌≤◌, false, sym, ◌∙◌, le_trans, le_of_eq, mul_assoc, mul-le-mul_left, mul-one, arith, pow_pos, pow_mono, pow-add}
use lib.Ieee.{Float, binary64, odd}
use lib.Ieee.Bits.{of_bits-fits}
use lib.Ieee.Exact.{odd_sign}
use Rattle.root.specs.Root.{scaled, IsRoot}
use Rattle.root.specs.Steps.{Form}
use Rattle.root.proofs.Squares.{four_is}
use Rattle.root.proofs.Nearest.{Whole, rounded, rounded-least, rounded-most, passes-lower, passes-upper}
use Rattle.root.proofs.Patterns.{bits_of}

-- s or 2 * s, so that the power left over is one of 4
abbrev pub lead : ℕ → ℕ → ℕ
lead s p = s * 2 ^ (1 - p % 2)

-- the k of the root's exponent k - 589
abbrev pub half : ℕ → ℕ
half p = (p - 1) / 2

lead-least : (s p : ℕ) → 2 ^ 52 ≤ s → 2 ^ 52 ≤ lead s p
lead-least s p h = le_trans h (le_trans (le_of_eq (sym (mul-one s))) (mul-le-mul_left s (pow_pos (1 - p % 2))))

pub lead-most : (s p : ℕ) → s < 2 ^ 53 → lead s p + 2 ≤ 2 ^ 54
lead-most s p h =
    let le : 1 - p % 2 ≤ 1 = omega arith in
    omega (arith, mul-le-mul_left s (pow_mono le))

pub halved : {n s p : ℕ} → Form n s p → n ≡ lead s p * 2 ^ 54 * 4 ^ (half p + 1)
halved {n} {s} {p} f =
    let k = half p + 1 in
    let d = 1 - p % 2 in
    let parts : p + 55 ≡ d + (54 + (k + k)) = omega (arith, f.first) in
    let powers : 2 ^ (p + 55) ≡ 2 ^ d * (2 ^ 54 * 4 ^ k) = rw (parts, pow-add 2 d (54 + (k + k)), pow-add 2 54 (k + k), pow-add 2 k k, four_is k) in
    f.is ∙ rw powers (sym (mul_assoc s (2 ^ d) (2 ^ 54 * 4 ^ k)) ∙ sym (mul_assoc (s * 2 ^ d) (2 ^ 54) (4 ^ k)))

-- R is the whole part of the root of `lead s p * 2^54`
abbrev pub WholeRoot : (s p R : ℕ) → Type 0
WholeRoot s p R = (R * R ≤ lead s p * 2 ^ 54) × (lead s p * 2 ^ 54 < (R + 1) * (R + 1))

pub whole : {n s p : ℕ} (R : ℕ) → Form n s p → WholeRoot s p R → Whole (lead s p) R
whole {n} {s} {p} R f w = record { least = lead-least s p f.least; most = lead-most s p f.most; under = w.0; over = w.1 }

pub found : (x : Float) (s p R : ℕ) → Form (scaled x) s p → WholeRoot s p R → IsRoot x (odd 53 false (rounded R) (half p) 589)
found x s p R f r =
    let w = whole R f r in
    let bits = bits_of (rounded R) (half p) (rounded-least w) (rounded-most w) (omega (arith, f.last)) in
    record {
      m = rounded R;
      k = half p;
      least = rounded-least w;
      most = rounded-most w;
      format = rw (← bits) (of_bits-fits binary64 ((half p + 485) * 2 ^ 52 + rounded R));
      value = odd_sign 53 false (rounded R) (half p) 589;
      below = rw (halved f) (passes-lower w (half p));
      above = rw (halved f) (passes-upper w (half p));
    }
