-- The digit loop: what holds before each turn, as plain numbers, and that a turn as the code writes it keeps it. Assumes nothing.
use Rattle.std.proofs.Common.{◌≡◌, ℕ, zero, suc, ◌+◌, ◌-◌, ◌*◌, ◌/◌, ◌%◌, ◌^◌, ◌<◌, ◌≤◌, Bool, true, false, cond, not, T, ltb, sym, refl, ap, ◌∙◌, mod-eq_of_lt, mul_assoc, mul_comm, add-mul, pow-suc, mul-one, mul-add, arith, ltb→lt, nltb→le, pow_pos}
use native.Mathlib.Nat.{sub-zero}
use lib.Bits.{bit_and, and_mask, and_zero_r}
use mir.Val.{bool_byte}
use Rattle.root.proofs.Squares.{Floor, square-next}

-- n is the square of the root so far, and rem units. One unit more in the root adds trial units to the square. Two units more, which is 1 in the
-- last digit so far, would be too many (`low`), and whatever digits come the root has no more than 54 of them (`fits`).
pub record Turn (n rem trial unit : ℕ) : Type 0 where
  pub root : ℕ
  pub place : ℕ
  pub unit-is : unit ≡ 2 ^ place
  pub trial-is : trial ≡ 2 * root + unit
  pub sum : root * root + rem * unit ≡ n
  pub low : rem < 4 * root + 4 * unit
  pub fits : root + 2 * unit ≤ 2 ^ 54

-- with its first digit the root is 2^53
pub start : (a : ℕ) → 2 ^ 52 ≤ a → a < 2 ^ 54 → Turn (a * 2 ^ 54) (a * 4 - 2 ^ 54) (2 ^ 54 + 2 ^ 52) (2 ^ 52)
start a least most = record {
  root = 2 ^ 53;
  place = 52;
  unit-is = refl;
  trial-is = refl;
  sum = omega arith;
  low = omega arith;
  fits = omega arith;
}

-- nothing is left: all digits to come are zeros
pub stopped : {n rem trial unit : ℕ} → Turn n rem trial unit → rem ≡ 0 → Floor ((trial - unit) / 2) n
stopped {n} {rem} {trial} {unit} t none =
    let is : (trial - unit) / 2 ≡ t.root = omega (arith, t.trial-is) in
    let all : t.root * t.root ≡ n = omega (arith, ap (λ (x : ℕ). x * unit) none, t.sum) in
    rw is (omega (arith, all), omega (arith, all, square-next t.root))

-- ---- a turn, as sums

-- one unit more in the root
square-more : (r u e : ℕ) → (r + u) * (r + u) + e * u ≡ r * r + (2 * r + u + e) * u
square-more r u e =
    omega
    (arith, add-mul r u (r + u), mul-add r r u, mul-add u r u, mul_comm u r, add-mul (2 * r + u) e u, add-mul (2 * r) u u, mul_assoc 2 r u)

twice_half : (x half : ℕ) {unit : ℕ} → unit ≡ 2 * half → x * 2 * half ≡ x * unit
twice_half x half e = mul_assoc x 2 half ∙ ap (λ (y : ℕ). x * y) (sym e)

-- a unit is two of the next, but for the last, which is 1
two-of-next : (place : ℕ) → 0 < 2 ^ place / 2 → (p : ℕ) × (2 ^ place / 2 ≡ 2 ^ p) × (2 ^ place ≡ 2 * (2 ^ place / 2))
two-of-next zero h = absurd (omega arith)
two-of-next (suc p) h = (p, omega (arith, pow-suc 2 p), omega (arith, pow-suc 2 p))

-- what is left, and the next trial: b says that the digit is 0
abbrev left : Bool → ℕ → ℕ → ℕ
left b rem trial = rem * 2 - cond b 0 (trial * 2)

abbrev next : Bool → ℕ → ℕ → ℕ
next b trial unit = trial - unit / 2 + cond b 0 (unit * 2)

module _ {n rem trial unit : ℕ} (t : Turn n rem trial unit) where
  -- ahead of another digit
  module _ (more : 0 < unit / 2) where
    smaller : (p : ℕ) × (unit / 2 ≡ 2 ^ p) × (unit ≡ 2 * (unit / 2))
    smaller = rw t.unit-is (two-of-next t.place (rw (← t.unit-is) more))

    nought : rem < trial → Turn n (left true rem trial) (next true trial unit) (unit / 2)
    nought short = record {
      root = t.root;
      place = smaller.0;
      unit-is = smaller.1;
      trial-is = omega (arith, smaller.2, t.trial-is);
      sum = rw sub-zero (omega (arith, twice_half rem (unit / 2) smaller.2, t.sum));
      low = omega (arith, smaller.2, t.trial-is);
      fits = omega (arith, smaller.2, t.fits);
    }

    one : trial ≤ rem → Turn n (left false rem trial) (next false trial unit) (unit / 2)
    one enough =
        let e = rem - trial in
        let all : 2 * t.root + unit + e ≡ rem = omega (arith, t.trial-is) in
        let twice : rem * 2 - trial * 2 ≡ e * 2 = omega arith in
        record {
          root = t.root + unit;
          place = smaller.0;
          unit-is = smaller.1;
          trial-is = omega (arith, smaller.2, t.trial-is);
          sum = rw twice (omega (arith, twice_half e (unit / 2) smaller.2, square-more t.root unit e, ap (λ (x : ℕ). x * unit) all, t.sum));
          low = omega (arith, smaller.2, t.trial-is, t.low);
          fits = omega (arith, smaller.2, t.fits);
        }

  -- the last digit
  module _ (last : unit / 2 ≡ 0) where
    is_one : unit ≡ 1
    is_one = omega (arith, t.unit-is, pow_pos t.place)

    all : t.root * t.root + rem ≡ n
    all = ap (λ (x : ℕ). t.root * t.root + x) (sym (mul-one rem) ∙ ap (λ (x : ℕ). rem * x) (sym is_one)) ∙ t.sum

    last-nought : rem < trial → Floor (next true trial unit / 2) n
    last-nought short =
        let is : next true trial unit / 2 ≡ t.root = omega (arith, is_one, t.trial-is) in
        rw is (omega (arith, all), omega (arith, all, is_one, t.trial-is, square-next t.root))

    last_one : trial ≤ rem → Floor (next false trial unit / 2) n
    last_one enough =
        let is : next false trial unit / 2 ≡ t.root + 1 = omega (arith, is_one, t.trial-is) in
        rw is (
          omega (arith, all, is_one, t.trial-is, square-next t.root),
          omega (arith, all, is_one, t.low, square-next t.root, square-next (t.root + 1)),
        )

-- ---- a turn, as the code writes it

by_less : (P : Bool → Type 0) (x y : ℕ) → (x < y → P true) → (y ≤ x → P false) → P (ltb x y)
by_less P x y short enough = by (ltb x y) (ltb→lt x y) (nltb→le x y)
  where
    by : (b : Bool) → (T b → x < y) → (T (not b) → y ≤ x) → P b
    by true f g = short (f tt)
    by false f g = enough (g tt)

-- x or nothing, taken by the mask k that is b - 1 in 64 bits
masked : (x k : ℕ) (b : Bool) → x < 2 ^ 64 → k < 2 ^ 64 → (k + 1) % 2 ^ 64 ≡ bool_byte b → bit_and x k ≡ cond b 0 x
masked x k true h l e =
    let none : k ≡ 0 = omega arith in
    rw none (and_zero_r x)
masked x k false h l e =
    let ones : k ≡ 2 ^ 64 - 1 = omega arith in
    rw ones (and_mask x 64 ∙ mod-eq_of_lt h)

module _ {n rem trial unit : ℕ} (t : Turn n rem trial unit) (k : ℕ) (h : k < 2 ^ 64) (e : (k + 1) % 2 ^ 64 ≡ bool_byte (ltb rem trial)) where
  taken : (x : ℕ) → x * 2 < 2 ^ 64 → bit_and (x * 2 % 2 ^ 64) k ≡ cond (ltb rem trial) 0 (x * 2)
  taken x fits = rw (mod-eq_of_lt fits) (masked (x * 2) k (ltb rem trial) fits h e)

  trial-taken : bit_and (trial * 2 % 2 ^ 64) k ≡ cond (ltb rem trial) 0 (trial * 2)
  trial-taken = taken trial (omega (arith, t.trial-is, t.fits))

  unit-taken : bit_and (unit * 2 % 2 ^ 64) k ≡ cond (ltb rem trial) 0 (unit * 2)
  unit-taken = taken unit (omega (arith, t.fits))

  rem-doubled : rem * 2 % 2 ^ 64 ≡ rem * 2
  rem-doubled = mod-eq_of_lt (omega (arith, t.low, t.fits))

  -- no more is taken away than there is
  pub enough : bit_and (trial * 2 % 2 ^ 64) k ≤ rem * 2 % 2 ^ 64
  enough = rw (trial-taken, rem-doubled) (by_less (λ b. cond b 0 (trial * 2) ≤ rem * 2) rem trial (λ h. omega arith) (λ h. omega arith))

  pub again : 0 < unit / 2
      → Turn n (rem * 2 % 2 ^ 64 - bit_and (trial * 2 % 2 ^ 64) k) (trial - unit / 2 + bit_and (unit * 2 % 2 ^ 64) k) (unit / 2)
  again more =
      rw (trial-taken, unit-taken, rem-doubled)
      (by_less (λ b. Turn n (left b rem trial) (next b trial unit) (unit / 2)) rem trial (nought t more) (one t more))

  pub ended : unit / 2 ≡ 0 → Floor ((trial - unit / 2 + bit_and (unit * 2 % 2 ^ 64) k) / 2) n
  ended last = rw unit-taken (by_less (λ b. Floor (next b trial unit / 2) n) rem trial (last-nought t last) (last_one t last))
