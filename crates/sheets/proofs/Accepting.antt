-- When a verdict is acceptance: exactly where the bytes say the set and the right marks; and the right marks of a series, which are
-- inside the set and known by their tests. Assumes nothing.
use Prim.Native.Nat.{ℕ, zero, suc, ◌≤◌, ◌<◌}
use native.Mathlib.Omega.{arith}
use mathlib.Core.Path.{◌≡◌, refl, sym, ap, ap₂, ◌∙◌}
use mathlib.Core.Bool.{Bool, true, false, not, ◌&&◌, cond}
use mathlib.Core.Logic.{◌↔◌}
use mathlib.Core.List.{List, [], ◌∷◌, ◌++◌}
use lib.Bits.{bit_and, and_le_r, and_zero_l}
use lib.Dec.{eqb, ltb}
use lib.Ieee.{Float}
use lib.ListN.{length, get_or, get_or-eq_default}
use lib.Seq.{ext_get_or}
use borrow.Author.Tests.{ltb-true, ltb-false, eqb-true, eqb-false}
use Rattle.laws.specs.Refusals.{first_of}
use Rattle.laws.proofs.Refusals.{passed}
use Rattle.groups.specs.Groups.{groups}
use Rattle.groups.proofs.Numbers.{Bytes, groups-bytes}
use Rattle.sets.specs.declared.Test.{Test}
use Rattle.sets.specs.Sets.{has}
use Rattle.sets.proofs.Sets.{known-by-tests}
use Rattle.rules.specs.Terms.{Terms}
use Rattle.rules.specs.Marking.{newest_first, stands, marks_at, cuts_of, lines_for, marks_of}
use Rattle.rules.proofs.Meaning.{marks-inside, length-marks, marks-at}
use Rattle.sheets.specs.Sheet.{marked, entries_of, sheet_of}
use Rattle.sheets.specs.Said.{Said, fault, sheet}
use Rattle.sheets.specs.Answers.{Verdict, first_wrong, judged}
use Rattle.sheets.proofs.Points.{entries_of-none, entries_of-zero, entries_of-mark}
use Rattle.sheets.proofs.Sheets.{Inside}
use Rattle.sheets.proofs.Comparing.{all_right}
use Rattle.sheets.proofs.Judging.{named-same}

-- ---- no wrong marks

wrong-by : (b : Bool) (i r m : ℕ) (rs ms : List ℕ) → eqb r m ≡ b → (cond b (first_wrong (suc i) rs ms) (11, i, r, m)).0 ≡ 0
    → ((first_wrong (suc i) rs ms).0 ≡ 0 → ms ≡ rs) → m ∷ ms ≡ r ∷ rs
wrong-by true i r m rs ms b e ih = ap₂ ◌∷◌ (sym (eqb-true r m b)) (ih e)
wrong-by false i r m rs ms b e ih = absurd (omega arith)

none-wrong : (i : ℕ) (right ms : List ℕ) → length ms ≡ length right → (first_wrong i right ms).0 ≡ 0 → ms ≡ right
unfolding first_wrong
none-wrong i [] [] n e = refl
none-wrong i [] (m ∷ ms) n e = absurd (omega arith)
none-wrong i (r ∷ rs) [] n e = absurd (omega arith)
none-wrong i (r ∷ rs) (m ∷ ms) n e = wrong-by (eqb r m) i r m rs ms refl e (λ f. none-wrong (suc i) rs ms (omega arith) f)

-- ---- acceptance

accepts-by : (set t : ℕ) (right ms : List ℕ) (a b : Bool) → eqb (length ms) (length right) ≡ a → eqb t set ≡ b
    → (cond {A = Verdict} (not (a && b)) (10, 0, 0, 0) (first_wrong 0 right ms)).0 ≡ 0 → sheet t ms ≡ sheet set right
accepts-by set t right ms true true x y e = ap₂ sheet (eqb-true t set y) (none-wrong 0 right ms (eqb-true (length ms) (length right) x) e)
accepts-by set t right ms true false x y e = absurd (omega arith)
accepts-by set t right ms false b x y e = absurd (omega arith)

accepts : (set : ℕ) (right : List ℕ) (r : Said) → (judged set right r).0 ≡ 0 → r ≡ sheet set right
unfolding first_of
accepts set right (fault p) e = absurd (omega arith)
accepts set right (sheet t ms) e = accepts-by set t right ms (eqb (length ms) (length right)) (eqb t set) refl refl e

pub accepted-said : (set : ℕ) (right : List ℕ) (r : Said) → (judged set right r ≡ (0, 0, 0, 0)) ↔ (r ≡ sheet set right)
unfolding first_of
accepted-said set right r = (
  (λ e. accepts set right r (ap (λ (v : Verdict). v.0) e)),
  (λ e. ap (judged set right) e
      ∙ passed (not (eqb (length right) (length right) && eqb set set)) (10, 0, 0, 0) [] (first_wrong 0 right right)
      (named-same (length right) (length right) set set refl refl)
      ∙ all_right 0 right),
)

-- ---- the right marks of a series

module _ (terms : Terms) (set : ℕ) (values : List Float) (valid : set ≤ 511) where
  pub right-inside : Inside set (marks_of terms set values)
  right-inside i = by (ltb i (length values)) refl
    where
      by : (b : Bool) → ltb i (length values) ≡ b
          → bit_and (get_or (marks_of terms set values) i 0) set
          ≡ get_or (marks_of terms set values) i 0
      by true b =
          let at = marks-at terms set values i (ltb-true i (length values) b) in
          rw at (marks-inside (cuts_of terms) (lines_for terms) set values i)
      by false b =
          let past : get_or (marks_of terms set values) i 0 ≡ 0 =
          get_or-eq_default (marks_of terms set values) 0 (omega (arith, length-marks terms set values, ltb-false i (length values) b)) in
          rw past (and_zero_l set)

  -- marks inside the set that are right test by test are the right ones
  pub right-by-tests : (ms : List ℕ) → length ms ≡ length values → Inside set ms
      → ((i : ℕ) (t : Test) → i < length values → has (get_or ms i 0) t ≡ (has set t && stands (lines_for terms) (newest_first (cuts_of terms) values (suc i)) t))
      → ms ≡ marks_of terms set values
  unfolding marks_at
  right-by-tests ms count inside each =
      ext_get_or 0 ms (marks_of terms set values) (count ∙ sym (length-marks terms set values))
      (λ i h.
      let k : i < length values = omega (arith, count) in
      known-by-tests (get_or ms i 0) (λ t. has set t && stands (lines_for terms) (newest_first (cuts_of terms) values (suc i)) t)
      (omega (arith, and_le_r (get_or ms i 0) set, inside i)) (λ t. each i t k)
      ∙ sym (marks-at terms set values i k))

-- ---- a sheet is bytes

bytes-append : (xs ys : List ℕ) → Bytes xs → Bytes ys → Bytes (xs ++ ys)
bytes-append [] ys h k i = k i
bytes-append (x ∷ xs) ys h k zero = h 0
bytes-append (x ∷ xs) ys h k (suc i) = bytes-append xs ys (λ j. h (suc j)) k i

bytes-none : Bytes []
bytes-none i = omega arith

entries-bytes : (skipped : ℕ) (ms : List ℕ) → Bytes (entries_of skipped ms)
entries-bytes skipped [] = rw (entries_of-none skipped) bytes-none
entries-bytes skipped (m ∷ ms) = by (eqb m 0) refl (entries-bytes (suc skipped) ms) (entries-bytes 0 ms)
  where
    by : (b : Bool) → eqb m 0 ≡ b → Bytes (entries_of (suc skipped) ms) → Bytes (entries_of 0 ms) → Bytes (entries_of skipped (m ∷ ms))
    by true b h k = let z : m ≡ 0 = eqb-true m 0 b in rw (z, entries_of-zero skipped ms) h
    by false b h k =
        rw (entries_of-mark skipped m ms (eqb-false m 0 b))
        (bytes-append (groups skipped) _ (groups-bytes skipped) (bytes-append (groups m) _ (groups-bytes m) k))

pub sheet-bytes : (set : ℕ) (ms : List ℕ) → Bytes (sheet_of set ms)
unfolding sheet_of
sheet-bytes set ms =
    bytes-append (groups (length ms)) _ (groups-bytes (length ms))
    (bytes-append (groups set) _ (groups-bytes set) (bytes-append (groups (marked ms)) _ (groups-bytes (marked ms)) (entries-bytes 0 ms)))
