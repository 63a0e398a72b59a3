-- What the reader's tests come to: a number that is at most so much, the head, and an entry, in front of what the rest says.
-- Assumes nothing.
use Prim.Native.Nat.{ℕ, suc, ◌+◌, ◌-◌, ◌^◌, ◌≤◌, ◌<◌}
use native.Mathlib.Omega.{arith}
use mathlib.Core.Path.{◌≡◌, refl, sym, ap, ◌∙◌}
use mathlib.Core.Bool.{Bool, true, false, cond}
use mathlib.Core.List.{List}
use lib.Bits.{bit_and}
use lib.Dec.{ltb, leb}
use lib.ListN.{drop}
use borrow.Author.Tests.{lt-ltb, le-ltb, le-leb, lt-leb, leb-true, eq-eqb, ne_eqb}
use Rattle.std.specs.Prelude.{Result, Ok, Err}
use Rattle.groups.specs.declared.Read.{Read}
use Rattle.groups.specs.declared.Fault.{Fault}
use Rattle.groups.specs.Groups.{Front, some, none, front, read_as, number_at, number_is, fault_is, onward}
use Rattle.groups.proofs.Numbers.{not-number}
use Rattle.groups.proofs.Onward.{no_number, out-of-place, in_place}
use Rattle.sheets.specs.declared.reader.Entry.{Entry}
use Rattle.sheets.specs.Said.{Said, fault, number, is_part, placed, entries}
use Rattle.sheets.specs.Steps.{at_most, FirstEntry}

-- ---- a number that is at most so much

-- a fault is at the number's first byte
fault-there : (s : List ℕ) (at : ℕ) (p : Fault) → number_at s at ≡ Err p → number_at s at ≡ fault_is at
unfolding number_at
fault-there s at p e = by (front (drop at s)) e
  where
    over : (b : Bool) (v next : ℕ) → cond b (number_is v next) (fault_is at) ≡ Err p → cond b (number_is v next) (fault_is at) ≡ fault_is at
    over true v next f = absurd (let z : ◌≡◌ {A = ℕ} 0 1 = cc in omega arith)
    over false v next f = refl

    by : (r : Front) → read_as at r ≡ Err p → read_as at r ≡ fault_is at
    by none f = refl
    by (some v n) f = over (ltb v (2 ^ 64)) v (at + n) f

pub fault-place : (s : List ℕ) (at : ℕ) (p : Fault) → number_at s at ≡ Err p → p ≡ record { at = at }
fault-place s at p e = let both : fault_is at ≡ Err p = sym (fault-there s at p e) ∙ e in cc

module _ (most at : ℕ) (r : Result (Read ℕ) Fault) where
  pub most-none : (p : Fault) → r ≡ Err p → fault_is at ≡ at_most most at r
  most-none p e = sym (ap (at_most most at) e)

  pub most-taken : (number : Read ℕ) → r ≡ Ok number → number.value ≤ most → Ok number ≡ at_most most at r
  most-taken number e h = sym (ap (at_most most at) e ∙ simp (le-leb number.value most h))

  pub most-over : (number : Read ℕ) → r ≡ Ok number → most < number.value → fault_is at ≡ at_most most at r
  most-over number e h = sym (ap (at_most most at) e ∙ simp (lt-leb number.value most h))

module _ (most at : ℕ) (rest : ℕ → ℕ → Said) where
  -- it was read, and the rest is said behind it
  went_on : (r : Result (Read ℕ) Fault) (number : Read ℕ) → at_most most at r ≡ Ok number
      → (onward (fault at) (fault at) (λ n. leb n most) rest r ≡ rest number.value number.next) × (number.value ≤ most)
  went_on (Err p) number e = not-number e
  went_on (Ok found) number e = by (leb found.value most) refl e
    where
      by : (t : Bool) → leb found.value most ≡ t → cond t (Ok found) (fault_is at) ≡ Ok number
          → (cond t (rest found.value found.next) (fault at) ≡ rest number.value number.next) × (number.value ≤ most)
      by true t f =
          let same : found ≡ number = cc in
          let low = leb-true found.value most t in
          (rw same refl, rw same at low)
      by false t f = not-number f

  -- it was not
  stopped : (r : Result (Read ℕ) Fault) (p : Fault) → at_most most at r ≡ Err p
      → (onward (fault at) (fault at) (λ n. leb n most) rest r ≡ fault p.at) × (p.at ≡ at)
  stopped (Err q) p e = let same : at ≡ p.at = cc in (ap fault same, sym same)
  stopped (Ok found) p e = by (leb found.value most) e
    where
      by : (t : Bool) → cond t (Ok found) (fault_is at) ≡ Err p
          → (cond t (rest found.value found.next) (fault at) ≡ fault p.at) × (p.at ≡ at)
      by true f = absurd (let z : ◌≡◌ {A = ℕ} 0 1 = cc in omega arith)
      by false f = let same : at ≡ p.at = cc in (ap fault same, sym same)

  pub number_read : (s : List ℕ) (found : Read ℕ) → at_most most at (number_at s at) ≡ Ok found
      → number (λ n. leb n most) s at rest ≡ rest found.value found.next
  number_read s found e = (went_on (number_at s at) found e).0

  pub number-fault : (s : List ℕ) (p : Fault) → at_most most at (number_at s at) ≡ Err p → number (λ n. leb n most) s at rest ≡ fault p.at
  number-fault s p e = (stopped (number_at s at) p e).0

pub number-low : (most at : ℕ) (s : List ℕ) (found : Read ℕ) → at_most most at (number_at s at) ≡ Ok found → found.value ≤ most
number-low most at s found e = (went_on most at (λ v next. fault 0) (number_at s at) found e).1

-- ---- an entry

module _ (s : List ℕ) (set left at : ℕ) where
  skipped : ℕ → ℕ → ℕ → Said
  skipped k skip p = number (is_part set) s p (λ m q. placed skip m (entries s set k (left - suc skip) q))

  -- no entry: the place of the number at fault
  abbrev pub broken : ℕ → Result Entry Fault
  broken p = Err (record { at = p })

  pub skip-none : (p : Fault) → number_at s at ≡ Err p → FirstEntry s set left at (broken at)
  unfolding entries
  skip-none p e = record { goes = λ k. no_number (fault at) (fault at) (λ skip. ltb skip left) s at _ at (fault-there s at p e); fits = tt }

  module _ (skip p : ℕ) (e : number_at s at ≡ number_is skip p) where
    pub skip-past : left ≤ skip → FirstEntry s set left at (broken at)
    unfolding entries
    skip-past h = record { goes = λ k. out-of-place (fault at) (fault at) (λ skip. ltb skip left) s at _ skip p e (le-ltb skip left h); fits = tt }

    module _ (h : skip < left) where
      goes : (k : ℕ) → entries s set (suc k) left at ≡ skipped k skip p
      unfolding entries skipped
      goes k = in_place (fault at) (fault at) (λ skip. ltb skip left) s at _ skip p e (lt-ltb skip left h)

      pub marks-none : (q : Fault) → number_at s p ≡ Err q → FirstEntry s set left at (broken p)
      unfolding skipped
      marks-none q f = record { goes = λ k. goes k ∙ no_number (fault p) (fault p) (is_part set) s p _ p (fault-there s p q f); fits = tt }

      module _ (m q : ℕ) (f : number_at s p ≡ number_is m q) where
        pub marks-zero : m ≡ 0 → FirstEntry s set left at (broken p)
        unfolding skipped
        marks-zero z = record { goes = λ k. goes k ∙ out-of-place (fault p) (fault p) (is_part set) s p _ m q f (simp (eq-eqb m 0 z)); fits = tt }

        pub marks-outside : (m ≡ 0 → ⊥) → (bit_and m set ≡ m → ⊥) → FirstEntry s set left at (broken p)
        unfolding skipped
        marks-outside z o = record {
          goes = λ k. goes k ∙ out-of-place (fault p) (fault p) (is_part set) s p _ m q f (simp (ne_eqb m 0 z, ne_eqb (bit_and m set) m o));
          fits = tt;
        }

        pub marks-inside : (m ≡ 0 → ⊥) → bit_and m set ≡ m → FirstEntry s set left at (Ok (record { skip = skip; marks = m; next = q }))
        unfolding skipped
        marks-inside z i = record {
          goes = λ k. goes k ∙ in_place (fault p) (fault p) (is_part set) s p _ m q f (simp (ne_eqb m 0 z, eq-eqb (bit_and m set) m i));
          fits = h;
        }
