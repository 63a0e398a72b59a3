-- What masks and counts of ones tell of a history, and what is pushed onto it. Assumes nothing.
use mathlib.Core.Path.{◌≡◌, refl, sym, ap, ap₂, ◌∙◌}
use mathlib.Core.Bool.{Bool, true, false, not, ◌&&◌, ◌||◌, and-true, or-false}
use mathlib.Core.List.{List, [], ◌∷◌}
use Prim.Native.Nat.{ℕ, zero, suc, ◌+◌, ◌*◌, ◌-◌, ◌%◌, ◌^◌, ◌≤◌, ◌<◌}
use native.Mathlib.Omega.{arith}
use native.Mathlib.Nat.{mod-lt, pow-suc, sub-zero, le_of_suc-le-suc}
use borrow.Author.Tests.{eq-eqb, ne_eqb, eqb-true, eqb-false}
use lib.Bits.{bit_and, bit_or, and_mask, or_lt, and_le_r, or_shifted}
use lib.Count.{ones}
use lib.Dec.{eqb, leb}
use lib.ListN.{length, take, get_or}
use lib.Pow.{pow_pos}
use lib.Seq.{ext_get_or, take-take, get_or-take, length-take-le}
use Rattle.laws.specs.Bools.{one, every}
use Rattle.laws.specs.Bits.{has_bit, from_bits}
use Rattle.laws.specs.Lists.{tabulate_from, tabulate}
use Rattle.laws.proofs.Bits.{one-lt, has-and, has-mask, has-or, has-from_bits, known-by-bits}
use Rattle.laws.proofs.FirstBits.{bits-again, ones-from_bits}
use Rattle.laws.proofs.Lists.{length-tabulate, get_d_tabulate, take-tabulate}
use Rattle.laws.proofs.OneBit.{no-bit, has-not}
use Rattle.rules.specs.Columns.{Begins, first, some, by_turns, judge}
use Rattle.rules.specs.Columns.Rule.{AllOf, SomeOf, InTurns}
use Rattle.histories.specs.Lanes.{column, pushed}

-- ---- masks

-- the mask of the lowest n bits leaves these
masked : (h n : ℕ) → bit_and h (2 ^ n - 1) ≡ from_bits (tabulate (has_bit h) n)
masked h n = known-by-bits (tabulate (has_bit h) n) (bit_and h (2 ^ n - 1)) low each
  where
    low : bit_and h (2 ^ n - 1) < 2 ^ length (tabulate (has_bit h) n)
    low = rw (length-tabulate (has_bit h) n, and_mask h n) (mod-lt h (pow_pos n))

    each : (k : ℕ) → k < length (tabulate (has_bit h) n) → has_bit (bit_and h (2 ^ n - 1)) k ≡ get_or (tabulate (has_bit h) n) k false
    each k q =
        let inside : k < n = omega (arith, length-tabulate (has_bit h) n) in
        has-and h (2 ^ n - 1) k
        ∙ ap (λ (b : Bool). has_bit h k && b)
        (ap (λ (m : ℕ). has_bit m k) (sym (sub-zero (2 ^ n - 1))) ∙ has-not n 0 k (pow_pos n) inside ∙ ap not (no-bit k))
        ∙ and-true (has_bit h k)
        ∙ sym (get_d_tabulate (has_bit h) n k false inside)

-- the newest n bits
newest-bits : (h n : ℕ) → n ≤ 15 → bit_and h (2 ^ n - 1) ≡ from_bits (take n (column h))
newest-bits h n small = masked h n ∙ ap from_bits (sym (take-tabulate (has_bit h) n 15 small))

-- a number whose bits are all set: an even one is none, and an odd one is where its half is
even-not : (f p : ℕ) → 0 < p → eqb (f * 2 + 0) (p * 2 - 1) ≡ false
even-not f p h = ne_eqb (f * 2 + 0) (p * 2 - 1) (λ e. omega (arith, e))

odd-half : (f p : ℕ) → 0 < p → eqb (f * 2 + 1) (p * 2 - 1) ≡ eqb f (p - 1)
odd-half f p h = by (eqb f (p - 1)) refl
  where
    by : (b : Bool) → eqb f (p - 1) ≡ b → eqb (f * 2 + 1) (p * 2 - 1) ≡ b
    by true e = eq-eqb (f * 2 + 1) (p * 2 - 1) (omega (arith, eqb-true f (p - 1) e))
    by false e = ne_eqb (f * 2 + 1) (p * 2 - 1) (λ g. eqb-false f (p - 1) e (omega (arith, g)))

all_set : (bs : List Bool) → eqb (from_bits bs) (2 ^ length bs - 1) ≡ every bs
unfolding from_bits every
all_set [] = refl
all_set (false ∷ bs) = rw (pow-suc 2 (length bs)) (even-not (from_bits bs) (2 ^ length bs) (pow_pos (length bs)))
all_set (true ∷ bs) = rw (pow-suc 2 (length bs)) (odd-half (from_bits bs) (2 ^ length bs) (pow_pos (length bs)) ∙ all_set bs)

module _ (h n : ℕ) (small : n ≤ 15) where
  long : length (take n (column h)) ≡ n
  long = ap length (take-tabulate (has_bit h) n 15 small) ∙ length-tabulate (has_bit h) n

  all-by-mask : eqb (bit_and h (2 ^ n - 1)) (2 ^ n - 1) ≡ first n (column h)
  all-by-mask =
      ap (λ (m : ℕ). eqb m (2 ^ n - 1)) (newest-bits h n small)
      ∙ ap (λ (m : ℕ). eqb (from_bits (take n (column h))) (2 ^ m - 1)) (sym long)
      ∙ all_set (take n (column h))

  some-by-ones : (k : ℕ) → leb k (ones (bit_and h (2 ^ n - 1))) ≡ some k n (column h)
  some-by-ones k = ap (leb k) (ap ones (newest-bits h n small) ∙ ones-from_bits (take n (column h)))

-- every other bit of one history, and those between of another
module _ (up down : ℕ) where
  abbrev woven : ℕ
  woven = bit_or (bit_and up 5461) (bit_and down 2730)

  abbrev turns : List Bool
  turns =
      has_bit up 0
      ∷ has_bit down 1
      ∷ has_bit up 2
      ∷ has_bit down 3
      ∷ has_bit up 4
      ∷ has_bit down 5
      ∷ has_bit up 6
      ∷ has_bit down 7
      ∷ has_bit up 8
      ∷ has_bit down 9
      ∷ has_bit up 10
      ∷ has_bit down 11
      ∷ has_bit up 12
      ∷ []

  woven-lt : woven < 2 ^ 13
  woven-lt = or_lt 13 (bit_and up 5461) (bit_and down 2730) (omega (arith, and_le_r up 5461)) (omega (arith, and_le_r down 2730))

  woven-is : woven ≡ from_bits turns
  woven-is = sym (bits-again 13 woven woven-lt) ∙ ap from_bits (simp (has-or, has-mask, or-false))

  turns-by-mask : eqb woven 8191 ≡ by_turns 13 (column up) (column down)
  unfolding by_turns every tabulate_from
  turns-by-mask = ap (λ (m : ℕ). eqb m 8191) woven-is ∙ all_set turns

-- ---- two histories, judged

module _ (up down n : ℕ) (small : n ≤ 15) where
  pub all-judged : (eqb (bit_and up (2 ^ n - 1)) (2 ^ n - 1) || eqb (bit_and down (2 ^ n - 1)) (2 ^ n - 1)) ≡ judge (AllOf n) (column up) (column down)
  unfolding judge
  all-judged = ap₂ ◌||◌ (all-by-mask up n small) (all-by-mask down n small)

  pub some-judged : (k : ℕ)
      → (leb k (ones (bit_and up (2 ^ n - 1))) || leb k (ones (bit_and down (2 ^ n - 1)))) ≡ judge (SomeOf k n) (column up) (column down)
  unfolding judge
  some-judged k = ap₂ ◌||◌ (some-by-ones up n small k) (some-by-ones down n small k)

pub turns-judged : (up down : ℕ) → (eqb (woven up down) 8191 || eqb (woven down up) 8191) ≡ judge (InTurns 13) (column up) (column down)
unfolding judge
turns-judged up down = ap₂ ◌||◌ (turns-by-mask up down) (turns-by-mask down up)

-- ---- one value more

-- the column of a number that is made of bits
column-of : (bs : List Bool) → 15 ≤ length bs → column (from_bits bs) ≡ take 15 bs
column-of bs long =
    let h = from_bits bs in
    let many : length (column h) ≡ 15 = length-tabulate (has_bit h) 15 in
    ext_get_or false (column h) (take 15 bs) (many ∙ sym (length-take-le 15 bs long))
    (λ k q. get_d_tabulate (has_bit h) 15 k false (omega (arith, many)) ∙ has-from_bits bs k ∙ sym (get_or-take 15 bs k false (omega (arith, many))))

module _ (b : Bool) (h : ℕ) where
  pub push-is : bit_or (h * 2 % 65536) (one b) ≡ pushed b h
  unfolding pushed
  push-is =
      let fallen : h * 2 % 65536 ≡ h % 2 ^ 15 * 2 ^ 1 = omega arith in
      ap (λ (m : ℕ). bit_or m (one b)) fallen ∙ or_shifted (h % 2 ^ 15) 1 (one b) (one-lt b)

  -- the bits of a history that was pushed
  pushed-bits : pushed b h ≡ from_bits (b ∷ column h)
  unfolding pushed from_bits
  pushed-bits = ap (λ (m : ℕ). m * 2 + one b) (sym (and_mask h 15) ∙ masked h 15)

  column-pushed : column (pushed b h) ≡ b ∷ take 14 (column h)
  column-pushed = ap column pushed-bits ∙ column-of (b ∷ column h) (omega (arith, length-tabulate (has_bit h) 15))

  -- What a history begins with, it begins with behind the bit that is pushed onto it.
  pub begins-on : (xs : List Bool) → Begins xs (column h) → Begins (b ∷ xs) (column (pushed b h))
  begins-on xs so zero small few = refl
  begins-on xs so (suc n) small few =
      ap (take (suc n)) column-pushed
      ∙ ap (λ (ys : List Bool). b ∷ ys) (take-take n 14 (column h) (le_of_suc-le-suc small) ∙ so n (omega arith) (le_of_suc-le-suc few))
