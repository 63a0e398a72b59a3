-- The loop that writes a number, on lists: the groups written so far are the front of its string, and what is left of the number has
-- the rest of it. Assumes nothing.
use Prim.Native.Nat.{ℕ, suc, ◌+◌, ◌/◌, ◌%◌, ◌≤◌, ◌<◌}
use native.Mathlib.Omega.{arith}
use mathlib.Core.Path.{◌≡◌, refl, sym, ap, ap₂, ◌∙◌}
use mathlib.Core.Bool.{Bool, true, false}
use mathlib.Core.List.{List, [], ◌∷◌, ◌++◌, append_assoc}
use lib.Dec.{ltb}
use lib.ListN.{length, get_or, take, drop, set, length-append}
use lib.Seq.{take-length, drop-cons, length-take-le, set-append_seam}
use lib.Bits.{bit_and, bit_or, and_le_r, or_lt, and_mask, or_shifted_r}
use borrow.Author.Tests.{ltb-true, ltb-false}
use Rattle.std.proofs.lemmas.List.{take_more_set}
use Rattle.laws.specs.Front.{at_front}
use Rattle.groups.specs.Groups.{groups}
use Rattle.groups.proofs.Strings.{groups-one, groups-more, groups-some}

-- a group with more to come, as the code makes it
top_bit : (x : ℕ) → bit_or (bit_and x 127) 128 ≡ 128 + x % 128
top_bit x =
    let h : x % 128 < 128 = omega arith in
    ap (λ (y : ℕ). bit_or y 128) (and_mask x 7) ∙ or_shifted_r 1 7 (x % 128) h

-- seven bits with whatever the code puts on top of them fit a byte
pub group-fits : (x top : ℕ) → top < 256 → bit_or (bit_and x 127) top < 256
group-fits x top h = or_lt 8 (bit_and x 127) top (omega (arith, and_le_r x 127)) h

-- one group is left just where the number is below 128
one_left : (x : ℕ) → length (groups x) ≤ 1 → x < 128
one_left x h = by (ltb x 128) refl
  where
    by : (t : Bool) → ltb x 128 ≡ t → x < 128
    by true t = ltb-true x 128 t
    by false t = absurd (omega (arith, ap length (groups-more x (ltb-false x 128 t)), groups-some (x / 128)))

-- i groups stand at the front of `out`, and those of `rest` are left
pub record Writes (x : ℕ) (out : List ℕ) (rest i : ℕ) : Type 0 where
  pub string : groups x ≡ take i out ++ groups rest

pub writes-starts : (x : ℕ) (out : List ℕ) → Writes x out x 0
writes-starts x out = record { string = refl }

module _ {x : ℕ} {out : List ℕ} {rest i : ℕ} (w : Writes x out rest i) where
  writes-count : i ≤ length out → length (groups x) ≡ i + length (groups rest)
  writes-count h =
      omega (arith, ap length w.string, length-append (take i out) (groups rest), length-take-le i out h)

  -- all but the last group
  pub writes-on : length out + 1 ≡ length (groups x) → i < length out → Writes x (set out i (bit_or (bit_and rest 127) 128)) (rest / 128) (i + 1)
  writes-on all h = by (ltb rest 128) refl
    where
      by : (t : Bool) → ltb rest 128 ≡ t → Writes x (set out i (bit_or (bit_and rest 127) 128)) (rest / 128) (i + 1)
      by true t = absurd (omega (arith, writes-count (omega arith), ap length (groups-one rest (ltb-true rest 128 t))))
      by false t =
          let g = bit_or (bit_and rest 127) 128 in
          record {
            string =
                w.string
                ∙ ap (λ (l : List ℕ). take i out ++ l)
                (groups-more rest (ltb-false rest 128 t) ∙ ap (λ (b : ℕ). b ∷ groups (rest / 128)) (sym (top_bit rest)))
                ∙ sym (append_assoc (take i out) (g ∷ []) (groups (rest / 128)))
                ∙ ap (λ (l : List ℕ). l ++ groups (rest / 128)) (sym (take_more_set out i g h));
          }

  -- the last group, behind the others
  module _ (all : length out + 1 ≡ length (groups x)) (end : i ≡ length out) where
    pub last-fits : rest < 128
    last-fits = one_left rest (omega (arith, writes-count (omega arith)))

    whole : groups x ≡ out ++ rest ∷ []
    whole =
        w.string
        ∙ ap₂ (λ (k : ℕ) (l : List ℕ). take k out ++ l) end (groups-one rest last-fits)
        ∙ ap (λ (l : List ℕ). l ++ rest ∷ []) (take-length out)

    pub writes-ends : (old : List ℕ) (n : ℕ) → n ≡ length out → n < length old → set (out ++ drop n old) n rest ≡ at_front (groups x) old
    writes-ends old n is h =
        let count : suc n ≡ length (groups x) = omega arith in
        ap₂ (λ (l : List ℕ) (k : ℕ). set (out ++ l) k rest) (drop-cons old n 0 h) is
        ∙ set-append_seam out (get_or old n 0) (drop (suc n) old) rest
        ∙ sym (append_assoc out (rest ∷ []) (drop (suc n) old))
        ∙ ap₂ (λ (l : List ℕ) (k : ℕ). l ++ drop k old) (sym whole) count
