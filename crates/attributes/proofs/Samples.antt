-- A sample by its own tests, and by the bits of its counts. Assumes nothing.
use Rattle.std.proofs.Common.{◌≡◌, ℕ, suc, ◌+◌, ◌/◌, ◌%◌, ◌^◌, ◌<◌, ◌≤◌, Bool, true, false, not, ◌&&◌, ◌||◌, eqb, ltb, List, [], ◌∷◌, sym, refl, ap, ◌∙◌, subst, ap₂, arith, ltb-false, ltb-true, eqb-true}
use borrow.Author.Tests.{eqb-false}
use lib.Arith.{bin_ind}
use lib.Bits.{bit_or, or_step, or_lt, or_comm}
use lib.Dec.{eqb-suc-zero}
use lib.Ieee.{Float}
use Rattle.laws.specs.Refusals.{first_of}
use Rattle.laws.proofs.Judged.{Judged, judged-next}
use Rattle.attributes.specs.Kinds.{rate_allowed, too_large, sample_p, sample_u}
use Rattle.attributes.specs.Evaluating.{right}

-- ---- a sample's own tests, one after the other

first-test : (a : Bool) (n : ℕ) (rest : List (Bool × ℕ)) → right ((a, suc n) ∷ rest) ≡ not a && right rest
unfolding first_of
first-test true n rest = eqb-suc-zero n
first-test false n rest = refl

right-P : (d n : ℕ) → right (sample_p d n) ≡ not (too_large d || too_large n) && (not (eqb n 0) && (not (ltb n d) && true))
unfolding first_of
right-P d n =
    first-test (too_large d || too_large n) 15 ((eqb n 0, 17) ∷ (ltb n d, 18) ∷ [])
    ∙ ap (λ (b : Bool). not (too_large d || too_large n) && b) (first-test (eqb n 0) 16 ((ltb n d, 18) ∷ []) ∙ ap (λ (b : Bool). not (eqb n 0) && b) (first-test (ltb n d) 17 []))

pub right-U : (d : ℕ) (u : Float) → not (too_large d || not (rate_allowed u)) ≡ right (sample_u d u)
unfolding first_of
right-U d u =
    neither (too_large d) (not (rate_allowed u))
    ∙ sym (first-test (too_large d) 15 ((not (rate_allowed u), 19) ∷ []) ∙ ap (λ (b : Bool). not (too_large d) && b) (first-test (not (rate_allowed u)) 18 []))
  where
    neither : (a b : Bool) → not (a || b) ≡ not a && (not b && true)
    neither true b = refl
    neither false true = refl
    neither false false = refl

-- ---- numbers together have no bit that none of them has

or_above : (a b : ℕ) → a ≤ bit_or a b
or_above = bin_ind (λ (n : ℕ). (b : ℕ) → n ≤ bit_or n b) (λ b. omega arith) (λ n ih b. omega (arith, or_step n b, ih (b / 2)))

or-within : (k a b : ℕ) → ltb (bit_or a b) (2 ^ k) ≡ ltb a (2 ^ k) && ltb b (2 ^ k)
or-within k a b =
    by (ltb (bit_or a b) (2 ^ k)) (ltb a (2 ^ k)) (ltb b (2 ^ k)) (ltb-true _ _) (ltb-false _ _) (ltb-true a _) (ltb-false a _) (ltb-true b _) (ltb-false b _)
  where
    by : (o p q : Bool) → (o ≡ true → bit_or a b < 2 ^ k) → (o ≡ false → 2 ^ k ≤ bit_or a b) → (p ≡ true → a < 2 ^ k) → (p ≡ false → 2 ^ k ≤ a)
        → (q ≡ true → b < 2 ^ k) → (q ≡ false → 2 ^ k ≤ b) → o ≡ p && q
    by true true true f g h i j l = refl
    by true false q f g h i j l = absurd (omega (arith, f refl, i refl, or_above a b))
    by true true false f g h i j l = absurd (omega (arith, f refl, l refl, or_above b a, or_comm a b))
    by false true true f g h i j l = absurd (omega (arith, g refl, or_lt k a b (h refl) (j refl)))
    by false false q f g h i j l = refl
    by false true false f g h i j l = refl

pub judged-bits : (f : ℕ → Bool) (n i bits x : ℕ) → Judged f n i (ltb bits (2 ^ 32)) → i < n → ltb x (2 ^ 32) ≡ f i
    → Judged f n (i + 1) (ltb (bit_or bits x) (2 ^ 32))
judged-bits f n i bits x j h e =
    subst (Judged f n (i + 1)) (sym (or-within 32 bits x)) (judged-next f n i (ltb bits (2 ^ 32)) j (ltb x (2 ^ 32)) h e)

-- ---- a sample of d damaged among n, with what n - d and n - 1 wrap around to

said : (x : ℕ) (c : Bool) → (c ≡ true → 2 ^ 32 ≤ x) → (c ≡ false → x < 2 ^ 32) → ltb x (2 ^ 32) ≡ not c
said x c f g = by (ltb x (2 ^ 32)) c (ltb-true x (2 ^ 32)) (ltb-false x (2 ^ 32)) f g
  where
    by : (a b : Bool) → (a ≡ true → x < 2 ^ 32) → (a ≡ false → 2 ^ 32 ≤ x) → (b ≡ true → 2 ^ 32 ≤ x) → (b ≡ false → x < 2 ^ 32) → a ≡ not b
    by true true h i j k = absurd (omega (arith, h refl, j refl))
    by true false h i j k = refl
    by false true h i j k = refl
    by false false h i j k = absurd (omega (arith, i refl, k refl))

large : (x : ℕ) → ltb x (2 ^ 32) ≡ not (too_large x)
large x = said x (too_large x) (λ h. omega (arith, ltb-true 4294967295 x h)) (λ h. omega (arith, ltb-false 4294967295 x h))

module _ (d n rest less : ℕ) (in_rest : rest < 2 ^ 64) (in-less : less < 2 ^ 64) (r : (rest + d) % 2 ^ 64 ≡ n) (l : (less + 1) % 2 ^ 64 ≡ n) where
  none-wraps : ltb d (2 ^ 32) && ltb n (2 ^ 32) && ltb rest (2 ^ 32) && ltb less (2 ^ 32)
      ≡ not (too_large d || too_large n) && (not (eqb n 0) && (not (ltb n d) && true))
  none-wraps = rw (large d, large n) (by (too_large d) (too_large n) (ltb-false 4294967295 d) (ltb-false 4294967295 n))
    where
      other_way : (z w : Bool) → not w && not z ≡ not z && (not w && true)
      other_way true true = refl
      other_way true false = refl
      other_way false true = refl
      other_way false false = refl

      by : (a b : Bool) → (a ≡ false → d ≤ 4294967295) → (b ≡ false → n ≤ 4294967295)
          → not a && not b && ltb rest (2 ^ 32) && ltb less (2 ^ 32) ≡ not (a || b) && (not (eqb n 0) && (not (ltb n d) && true))
      by true b f g = refl
      by false true f g = refl
      by false false f g =
          ap₂ ◌&&◌
          (said rest (ltb n d)
          (λ h. omega (arith, ltb-true n d h, f refl, g refl, r, in_rest)) (λ h. omega (arith, ltb-false n d h, f refl, g refl, r, in_rest)))
          (said less (eqb n 0) (λ h. omega (arith, eqb-true n 0 h, l, in-less)) (λ h. omega (arith, eqb-false n 0 h, g refl, l, in-less)))
          ∙ other_way (eqb n 0) (ltb n d)

  pub bits-tell : ltb (bit_or (bit_or (bit_or d n) rest) less) (2 ^ 32) ≡ right (sample_p d n)
  bits-tell =
      or-within 32 (bit_or (bit_or d n) rest) less
      ∙ ap (λ (b : Bool). b && ltb less (2 ^ 32)) (or-within 32 (bit_or d n) rest ∙ ap (λ (b : Bool). b && ltb rest (2 ^ 32)) (or-within 32 d n))
      ∙ none-wraps
      ∙ sym (right-P d n)
