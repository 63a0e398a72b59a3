-- The bits of and, or, shifts and of a list's number; a number is known by its bits. Assumes nothing.
use mathlib.Core.Path.{◌≡◌, refl, sym, ap, ap₂, ◌∙◌}
use mathlib.Core.Bool.{Bool, true, false, ◌&&◌, ◌||◌}
use mathlib.Core.List.{List, [], ◌∷◌, ◌++◌, map, append-nil, append_assoc}
use Prim.Native.Nat.{ℕ, zero, suc, ◌+◌, ◌*◌, ◌/◌, ◌%◌, ◌^◌, ◌≤◌, ◌<◌, min, max}
use native.Mathlib.Omega.{arith}
use native.Mathlib.Nat.{div-one, zero-div, mod-lt, zero-lt-suc, pow-suc, min-le_left, add_comm, mul_assoc}
use native.Mathlib.Numerals.{one-add}
use lib.Dec.{eqb}
use lib.ListN.{length, get_or, length-append, length-map}
use lib.Bits.{bit_and, bit_or, and_comm, and_step, and_shr, and_mask, or_step, or_shr, or_shifted_r}
use lib.Pow.{shr-shr, shl_exact}
use Rattle.laws.specs.Bools.{one}
use Rattle.laws.specs.Bits.{has_bit, from_bits}

-- ---- one digit

pub one-lt : (b : Bool) → one b < 2
one-lt true = omega arith
one-lt false = omega arith

odd-lt : (n : ℕ) → n % 2 < 2
odd-lt n = mod-lt n (zero-lt-suc 1)

-- a digit is one where the test says so
digit-is : (d : ℕ) → d < 2 → d ≡ one (eqb d 1)
digit-is zero h = refl
digit-is (suc zero) h = refl
digit-is (suc (suc d)) h = absurd (omega arith)

min-digits : (x y : ℕ) → x < 2 → y < 2 → eqb (min x y) 1 ≡ (eqb x 1 && eqb y 1)
min-digits zero zero h k = refl
min-digits zero (suc zero) h k = refl
min-digits (suc zero) zero h k = refl
min-digits (suc zero) (suc zero) h k = refl
min-digits (suc (suc x)) y h k = absurd (omega arith)
min-digits zero (suc (suc y)) h k = absurd (omega arith)
min-digits (suc zero) (suc (suc y)) h k = absurd (omega arith)

max-digits : (x y : ℕ) → x < 2 → y < 2 → (eqb (max x y) 1 ≡ (eqb x 1 || eqb y 1)) × (max x y < 2)
max-digits zero zero h k = (refl, h)
max-digits zero (suc zero) h k = (refl, k)
max-digits (suc zero) zero h k = (refl, h)
max-digits (suc zero) (suc zero) h k = (refl, h)
max-digits (suc (suc x)) y h k = absurd (omega arith)
max-digits zero (suc (suc y)) h k = absurd (omega arith)
max-digits (suc zero) (suc (suc y)) h k = absurd (omega arith)

-- ---- the bits of what the code makes

and-odd : (x y : ℕ) → bit_and x y % 2 ≡ min (x % 2) (y % 2)
and-odd x y = omega (arith, and_step x y, min-le_left (x % 2) (y % 2))

pub has-and : (a b k : ℕ) → has_bit (bit_and a b) k ≡ (has_bit a k && has_bit b k)
unfolding has_bit
has-and a b k =
    ap (λ (n : ℕ). eqb (n % 2) 1) (and_shr a b k)
    ∙ ap (λ (n : ℕ). eqb n 1) (and-odd (a / 2 ^ k) (b / 2 ^ k))
    ∙ min-digits (a / 2 ^ k % 2) (b / 2 ^ k % 2) (odd-lt (a / 2 ^ k)) (odd-lt (b / 2 ^ k))

-- a bit of what a mask leaves; of a mask that is written out it can be seen whether it has the bit
pub has-mask : (n m k : ℕ) → has_bit (bit_and n m) k ≡ (eqb (m / 2 ^ k % 2) 1 && has_bit n k)
unfolding has_bit
has-mask n m k = ap (λ (x : ℕ). has_bit x k) (and_comm n m) ∙ has-and m n k

or-odd : (x y : ℕ) → bit_or x y % 2 ≡ max (x % 2) (y % 2)
or-odd x y = omega (arith, or_step x y, (max-digits (x % 2) (y % 2) (odd-lt x) (odd-lt y)).1)

pub has-or : (a b k : ℕ) → has_bit (bit_or a b) k ≡ (has_bit a k || has_bit b k)
unfolding has_bit
has-or a b k =
    ap (λ (n : ℕ). eqb (n % 2) 1) (or_shr a b k)
    ∙ ap (λ (n : ℕ). eqb n 1) (or-odd (a / 2 ^ k) (b / 2 ^ k))
    ∙ (max-digits (a / 2 ^ k % 2) (b / 2 ^ k % 2) (odd-lt (a / 2 ^ k)) (odd-lt (b / 2 ^ k))).0

pub has-shr : (n s k : ℕ) → has_bit (n / 2 ^ s) k ≡ has_bit n (s + k)
unfolding has_bit
has-shr n s k = ap (λ (m : ℕ). eqb (m % 2) 1) (shr-shr n s k)

-- the lowest bit, cut out by a mask
pub low_bit : (n : ℕ) → bit_and n 1 ≡ one (has_bit n 0)
unfolding has_bit
low_bit n = and_mask n 1 ∙ ap (λ (m : ℕ). m % 2) (sym (div-one n)) ∙ digit-is (n / 1 % 2) (odd-lt (n / 1))

-- ---- the number of a list of bits

pub from_bits-lt : (bs : List Bool) → from_bits bs < 2 ^ length bs
unfolding from_bits
from_bits-lt [] = omega arith
from_bits-lt (b ∷ bs) = omega (arith, from_bits-lt bs, one-lt b, pow-suc 2 (length bs))

pub has-from_bits : (bs : List Bool) (k : ℕ) → has_bit (from_bits bs) k ≡ get_or bs k false
unfolding has_bit from_bits
has-from_bits [] k = rw zero-div refl
has-from_bits (b ∷ bs) zero =
    let odd : (from_bits bs * 2 + one b) / 2 ^ 0 % 2 ≡ one b = omega (arith, div-one (from_bits bs * 2 + one b), one-lt b) in
    ap (λ (m : ℕ). eqb m 1) odd ∙ low b
  where
    low : (b : Bool) → eqb (one b) 1 ≡ b
    low true = refl
    low false = refl
has-from_bits (b ∷ bs) (suc k) =
    let half : (from_bits bs * 2 + one b) / 2 ^ 1 ≡ from_bits bs = omega (arith, one-lt b) in
    sym (ap (λ (j : ℕ). eqb ((from_bits bs * 2 + one b) / 2 ^ j % 2) 1) (one-add k))
    ∙ ap (λ (m : ℕ). eqb (m % 2) 1) (sym (shr-shr (from_bits bs * 2 + one b) 1 k) ∙ ap (λ (m : ℕ). m / 2 ^ k) half)
    ∙ has-from_bits bs k

-- a number is known by its bits
pub known-by-bits : (bs : List Bool) (n : ℕ) → n < 2 ^ length bs → ((k : ℕ) → k < length bs → has_bit n k ≡ get_or bs k false) → n ≡ from_bits bs
unfolding from_bits
known-by-bits [] n h f = omega arith
known-by-bits (b ∷ bs) n h f =
    let rest : n / 2 ≡ from_bits bs = known-by-bits bs (n / 2) (omega (arith, pow-suc 2 (length bs)))
    (λ k q. has-shr n 1 k ∙ ap (has_bit n) (one-add k) ∙ f (suc k) (omega arith)) in
    omega (arith, rest, low n b (f 0 (omega arith)))
  where
    low : (n : ℕ) (b : Bool) → has_bit n 0 ≡ b → n % 2 ≡ one b
    low n b e = sym (and_mask n 1) ∙ low_bit n ∙ ap one e

-- ---- a number put together by shifts and ors, bit by bit

-- the bits from k on, each shifted to its place within a width and put into what is there
abbrev pub or_into : ℕ → ℕ → ℕ → List Bool → ℕ
or_into w k n [] = n
or_into w k n (b ∷ bs) = or_into w (suc k) (bit_or n (one b * 2 ^ k % 2 ^ w)) bs

from_bits-snoc : (bs : List Bool) (b : Bool) → from_bits (bs ++ (b ∷ [])) ≡ from_bits bs + one b * 2 ^ length bs
unfolding from_bits
from_bits-snoc [] b = omega arith
from_bits-snoc (c ∷ bs) b =
    let far : one b * 2 ^ suc (length bs) ≡ one b * 2 ^ length bs * 2 = ap (λ (x : ℕ). one b * x) (pow-suc 2 (length bs)) ∙ sym (mul_assoc (one b) (2 ^ length bs) 2) in
    omega (arith, from_bits-snoc bs b, far)

or-into : (w : ℕ) (low bs : List Bool) → length low + length bs ≤ w → or_into w (length low) (from_bits low) bs ≡ from_bits (low ++ bs)
or-into w low [] h = ap from_bits (sym (append-nil low))
or-into w low (b ∷ bs) h =
    let next = low ++ (b ∷ []) in
    let long : length next ≡ suc (length low) = length-append low (b ∷ []) ∙ omega arith in
    let put : bit_or (from_bits low) (one b * 2 ^ length low % 2 ^ w) ≡ from_bits next =
    ap (bit_or (from_bits low)) (shl_exact 1 (length low) w (one-lt b) (omega arith))
    ∙ or_shifted_r (one b) (length low) (from_bits low) (from_bits-lt low)
    ∙ add_comm (one b * 2 ^ length low) (from_bits low)
    ∙ sym (from_bits-snoc low b) in
    ap₂ (λ (k n : ℕ). or_into w k n bs) (sym long) put
    ∙ or-into w next bs (omega (arith, long))
    ∙ ap from_bits (append_assoc low (b ∷ []) bs)

pub or-bits : (w : ℕ) (b : Bool) (bs : List Bool) → 1 + length bs ≤ w → or_into w 1 (one b) bs ≡ from_bits (b ∷ bs)
or-bits w b bs h =
    let low : one b ≡ from_bits (b ∷ []) = unfold from_bits in omega arith in
    ap (λ (n : ℕ). or_into w 1 n bs) low ∙ or-into w (b ∷ []) bs h

-- the same of the lowest bits of numbers
abbrev pub or_low : ℕ → ℕ → ℕ → List ℕ → ℕ
or_low w k n [] = n
or_low w k n (t ∷ ts) = or_low w (suc k) (bit_or n (bit_and t 1 * 2 ^ k % 2 ^ w)) ts

low-into : (w k n : ℕ) (ts : List ℕ) → or_low w k n ts ≡ or_into w k n (map (λ t. has_bit t 0) ts)
low-into w k n [] = refl
low-into w k n (t ∷ ts) =
    ap (λ (b : ℕ). or_low w (suc k) (bit_or n (b * 2 ^ k % 2 ^ w)) ts) (low_bit t) ∙ low-into w (suc k) (bit_or n (one (has_bit t 0) * 2 ^ k % 2 ^ w)) ts

pub or-low : (w t : ℕ) (ts : List ℕ) → 1 + length ts ≤ w → or_low w 1 (bit_and t 1) ts ≡ from_bits (map (λ t. has_bit t 0) (t ∷ ts))
or-low w t ts h =
    low-into w 1 (bit_and t 1) ts
    ∙ ap (λ (n : ℕ). or_into w 1 n (map (λ t. has_bit t 0) ts)) (low_bit t)
    ∙ or-bits w (has_bit t 0) (map (λ t. has_bit t 0) ts) (rw (length-map ts (λ t. has_bit t 0)) h)
