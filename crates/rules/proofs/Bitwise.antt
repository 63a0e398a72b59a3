-- The tests of a position by ands, ors and shifts of its fifteen codes, as `standing` and `pack` make them, are what is read off the
-- codes. Assumes nothing.
use mathlib.Core.Path.{◌≡◌, refl, sym, ap, ap₂, ◌∙◌}
use mathlib.Core.Bool.{Bool, true, false, ◌&&◌, ◌||◌, beq, and-true, and_assoc, or-false, or_self}
use mathlib.Core.List.{List, [], ◌∷◌}
use Prim.Native.Nat.{ℕ, ◌/◌, ◌^◌, ◌<◌}
use native.Mathlib.Omega.{arith}
use lib.Bits.{bit_and, bit_or, and_le_r, or_lt}
use lib.Dec.{leb}
use Rattle.laws.specs.Bools.{every, count}
use Rattle.laws.specs.Bits.{has_bit, from_bits}
use Rattle.laws.proofs.Bools.{both}
use Rattle.laws.proofs.Bits.{has-and, has-mask, has-or, has-shr}
use Rattle.laws.proofs.FirstBits.{bits-again}
use Rattle.sets.specs.Sets.{tests, bit_of}
use Rattle.rules.specs.Columns.{first, by_turns, some, judge, rule_of, read_off}
use Rattle.rules.specs.Codes.{column, down_bit, packed_bits, read_codes}

same : (a b : Bool) → beq a b ≡ true → a ≡ b
same true true h = refl
same true false h = sym h
same false true h = h
same false false h = refl

-- ---- what holds of yes and of no holds of every yes or no: a rule on a few of them is one computed test

for_all : (Bool → Bool) → Bool
for_all f = f true && f false

for-all : (f : Bool → Bool) → for_all f ≡ true → (b : Bool) → f b ≡ true
unfolding for_all
for-all f h true = (both (f true) (f false) h).0
for-all f h false = (both (f true) (f false) h).1

two-of-three : (a b c : Bool) → ((a && b) || (c && (a || b))) ≡ leb 2 (count (a ∷ b ∷ c ∷ []))
unfolding for_all count
two-of-three a b c =
    let test : Bool → Bool → Bool → Bool = λ a b c. beq ((a && b) || (c && (a || b))) (leb 2 (count (a ∷ b ∷ c ∷ []))) in
    same _ _ (for-all (test a b) (for-all (λ b. for_all (test a b)) (for-all (λ a. for_all (λ b. for_all (test a b))) refl a) b) c)

four-of-five : (a b c d e : Bool)
    → ((((a && b) && c) && d) || (e && (((a && b) && (c || d)) || (((a || b) && c) && d)))) ≡ leb 4 (count (a ∷ b ∷ c ∷ d ∷ e ∷ []))
unfolding for_all count
four-of-five a b c d e =
    let test : Bool → Bool → Bool → Bool → Bool → Bool = λ a b c d e.
    beq ((((a && b) && c) && d) || (e && (((a && b) && (c || d)) || (((a || b) && c) && d)))) (leb 4 (count (a ∷ b ∷ c ∷ d ∷ e ∷ []))) in
    same _ _
    (for-all (test a b c d)
    (for-all (λ d. for_all (test a b c d))
    (for-all (λ c. for_all (λ d. for_all (test a b c d)))
    (for-all (λ b. for_all (λ c. for_all (λ d. for_all (test a b c d))))
    (for-all (λ a. for_all (λ b. for_all (λ c. for_all (λ d. for_all (test a b c d))))) refl a) b) c) d) e)

-- ---- two lists by turns

weave : List Bool → List Bool → List Bool
weave [] ys = ys
weave (x ∷ xs) [] = x ∷ xs
weave (x ∷ xs) (y ∷ ys) = x ∷ y ∷ weave xs ys

and-four : (a b c d : Bool) → ((a && b) && (c && d)) ≡ (a && (c && (b && d)))
and-four true true c d = refl
and-four true false true d = refl
and-four true false false d = refl
and-four false b c d = refl

weave-every : (xs ys : List Bool) → (every xs && every ys) ≡ every (weave xs ys)
unfolding weave every
weave-every [] ys = refl
weave-every (x ∷ xs) [] = and-true (x && every xs)
weave-every (x ∷ xs) (y ∷ ys) = and-four x (every xs) y (every ys) ∙ ap (λ (b : Bool). x && (y && b)) (weave-every xs ys)

-- ---- the tests by their bits

-- nine and nine, one by one
nine : {a0 a1 a2 a3 a4 a5 a6 a7 a8 b0 b1 b2 b3 b4 b5 b6 b7 b8 : Bool}
    → a0 ≡ b0 → a1 ≡ b1 → a2 ≡ b2 → a3 ≡ b3 → a4 ≡ b4 → a5 ≡ b5 → a6 ≡ b6 → a7 ≡ b7 → a8 ≡ b8
    → a0 ∷ a1 ∷ a2 ∷ a3 ∷ a4 ∷ a5 ∷ a6 ∷ a7 ∷ a8 ∷ [] ≡ b0 ∷ b1 ∷ b2 ∷ b3 ∷ b4 ∷ b5 ∷ b6 ∷ b7 ∷ b8 ∷ []
nine e0 e1 e2 e3 e4 e5 e6 e7 e8 = cc

less : (n m : ℕ) → m < 512 → bit_and n m < 512
less n m h = omega (arith, and_le_r n m)

join : (m n : ℕ) → m < 512 → n < 512 → bit_or m n < 512
join m n h k = or_lt 9 m n h k

module _ (c0 all5 all8 all9 all15 turns two four : ℕ) where
  abbrev pairs : ℕ
  pairs = bit_or (bit_or (bit_or (bit_and all9 514) (bit_and all5 1028)) (bit_and two 4112)) (bit_and four 8224)

  abbrev folded : ℕ
  folded = bit_and (bit_or pairs (pairs / 2 ^ 8)) 54

  abbrev sides : ℕ
  sides = bit_and (bit_or all8 (all8 / 2 ^ 6)) 256

  abbrev packed : ℕ
  packed = bit_or (bit_or (bit_or (bit_or (bit_or (bit_and c0 1) folded) (bit_and turns 8)) (bit_and all15 64)) (bit_and all8 128)) sides

  packed_lt : packed < 512
  packed_lt =
      join _ sides
      (join _ (bit_and all8 128)
      (join _ (bit_and all15 64)
      (join _ (bit_and turns 8)
      (join (bit_and c0 1) folded (less c0 1 (omega arith)) (less (bit_or pairs (pairs / 2 ^ 8)) 54 (omega arith)))
      (less turns 8 (omega arith)))
      (less all15 64 (omega arith)))
      (less all8 128 (omega arith)))
      (less (bit_or all8 (all8 / 2 ^ 6)) 256 (omega arith))

  abbrev has-at : ℕ → Bool
  has-at k = has_bit packed k

  bits : has-at 0 ∷ has-at 1 ∷ has-at 2 ∷ has-at 3 ∷ has-at 4 ∷ has-at 5 ∷ has-at 6 ∷ has-at 7 ∷ has-at 8 ∷ []
      ≡ packed_bits c0 all5 all8 all9 all15 turns two four
  bits =
      nine
      (simp (has-or, has-mask, or-false))
      (simp (has-or, has-mask, has-shr, or-false))
      (simp (has-or, has-mask, has-shr, or-false))
      (simp (has-or, has-mask, or-false))
      (simp (has-or, has-mask, has-shr, or-false))
      (simp (has-or, has-mask, has-shr, or-false))
      (simp (has-or, has-mask, or-false))
      (simp (has-or, has-mask, or-false))
      (simp (has-or, has-mask, has-shr, or-false))

  pub pack-is : packed ≡ from_bits (packed_bits c0 all5 all8 all9 all15 turns two four)
  pack-is = sym (bits-again 9 packed packed_lt) ∙ ap from_bits bits

module _ (c0 c1 c2 c3 c4 c5 c6 c7 c8 c9 c10 c11 c12 c13 c14 : ℕ) where
  abbrev codes : List ℕ
  codes = c0 ∷ c1 ∷ c2 ∷ c3 ∷ c4 ∷ c5 ∷ c6 ∷ c7 ∷ c8 ∷ c9 ∷ c10 ∷ c11 ∷ c12 ∷ c13 ∷ c14 ∷ []

  abbrev all5 : ℕ
  all5 = bit_and (bit_and (bit_and (bit_and c0 c1) c2) c3) c4

  abbrev all8 : ℕ
  all8 = bit_and (bit_and (bit_and all5 c5) c6) c7

  abbrev all9 : ℕ
  all9 = bit_and all8 c8

  abbrev all15 : ℕ
  all15 = bit_and (bit_and (bit_and (bit_and (bit_and (bit_and all9 c9) c10) c11) c12) c13) c14

  abbrev even : ℕ
  even = bit_and (bit_and (bit_and (bit_and (bit_and (bit_and c0 c2) c4) c6) c8) c10) c12

  abbrev odd : ℕ
  odd = bit_and (bit_and (bit_and (bit_and (bit_and c1 c3) c5) c7) c9) c11

  abbrev turns : ℕ
  turns = bit_or (bit_and even (odd / 2 ^ 8)) (bit_and (even / 2 ^ 8) odd)

  abbrev two : ℕ
  two = bit_or (bit_and c0 c1) (bit_and c2 (bit_or c0 c1))

  abbrev four : ℕ
  four =
      bit_or (bit_and (bit_and (bit_and c0 c1) c2) c3)
      (bit_and c4 (bit_or (bit_and (bit_and c0 c1) (bit_or c2 c3)) (bit_and (bit_and (bit_or c0 c1) c2) c3)))

  -- bit s of them, by what bit s of each code says
  module _ (s : ℕ) where
    all5-has : has_bit all5 s ≡ first 5 (column s codes)
    unfolding every
    all5-has = simp (has-and, and_assoc, and-true)

    all8-has : has_bit all8 s ≡ first 8 (column s codes)
    unfolding every
    all8-has = simp (has-and, and_assoc, and-true)

    all9-has : has_bit all9 s ≡ first 9 (column s codes)
    unfolding every
    all9-has = simp (has-and, and_assoc, and-true)

    all15-has : has_bit all15 s ≡ first 15 (column s codes)
    unfolding every
    all15-has = simp (has-and, and_assoc, and-true)

    two-has : has_bit two s ≡ some 2 3 (column s codes)
    two-has = simp (has-or, has-and) (two-of-three (has_bit c0 s) (has_bit c1 s) (has_bit c2 s))

    four-has : has_bit four s ≡ some 4 5 (column s codes)
    four-has = simp (has-or, has-and) (four-of-five (has_bit c0 s) (has_bit c1 s) (has_bit c2 s) (has_bit c3 s) (has_bit c4 s))

  turns-has : (s t : ℕ) → (has_bit even s && has_bit odd t) ≡ by_turns 13 (column s codes) (column t codes)
  unfolding by_turns every weave
  turns-has s t =
      ap₂ ◌&&◌ evens odds
      ∙ weave-every (has_bit c0 s ∷ has_bit c2 s ∷ has_bit c4 s ∷ has_bit c6 s ∷ has_bit c8 s ∷ has_bit c10 s ∷ has_bit c12 s ∷ [])
      (has_bit c1 t ∷ has_bit c3 t ∷ has_bit c5 t ∷ has_bit c7 t ∷ has_bit c9 t ∷ has_bit c11 t ∷ [])
    where
      evens : has_bit even s ≡ every (has_bit c0 s ∷ has_bit c2 s ∷ has_bit c4 s ∷ has_bit c6 s ∷ has_bit c8 s ∷ has_bit c10 s ∷ has_bit c12 s ∷ [])
      evens = simp (has-and, and_assoc, and-true)

      odds : has_bit odd t ≡ every (has_bit c1 t ∷ has_bit c3 t ∷ has_bit c5 t ∷ has_bit c7 t ∷ has_bit c9 t ∷ has_bit c11 t ∷ [])
      odds = simp (has-and, and_assoc, and-true)

  pub standing-is : packed_bits c0 all5 all8 all9 all15 turns two four ≡ read_codes codes
  unfolding read_codes read_off tests judge rule_of bit_of down_bit every
  standing-is =
      nine
      (sym (or_self (has_bit c0 0 && true) ∙ and-true (has_bit c0 0)))
      (ap₂ ◌||◌ (all9-has 1) (all9-has 9))
      (ap₂ ◌||◌ (all5-has 2) (all5-has 10))
      (has-or (bit_and even (odd / 2 ^ 8)) (bit_and (even / 2 ^ 8) odd) 3
      ∙ ap₂ ◌||◌
      (has-and even (odd / 2 ^ 8) 3 ∙ ap (λ (b : Bool). has_bit even 3 && b) (has-shr odd 8 3) ∙ turns-has 3 11)
      (has-and (even / 2 ^ 8) odd 3 ∙ ap (λ (b : Bool). b && has_bit odd 3) (has-shr even 8 3) ∙ turns-has 11 3))
      (ap₂ ◌||◌ (two-has 4) (two-has 12))
      (ap₂ ◌||◌ (four-has 5) (four-has 13))
      (all15-has 6 ∙ sym (or_self (first 15 (column 6 codes))))
      (all8-has 7 ∙ sym (or_self (first 8 (column 7 codes))))
      (ap₂ ◌||◌ (all8-has 8) (all8-has 14))
