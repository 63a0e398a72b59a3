-- The marks that are read off the codes of a block are its marks: from the fifteenth value on as they are, before it where the window
-- fits. Assumes nothing.
use mathlib.Core.Path.{◌≡◌, refl, sym, ap, ap₂, ◌∙◌, fun_ext}
use mathlib.Core.Bool.{Bool, true, false}
use mathlib.Core.List.{List, ◌++◌, append_assoc}
use Prim.Native.Nat.{ℕ, zero, suc, ◌+◌, ◌-◌, ◌≤◌, ◌<◌}
use native.Mathlib.Nat.{zero-add, sub-zero, le_of_suc-le-suc}
use native.Mathlib.Omega.{arith}
use borrow.Author.Tests.{ltb-true, ltb-false}
use lib.Bits.{bit_and}
use lib.Dec.{ltb}
use lib.Ieee.{Float, nan}
use lib.ListN.{length, take, drop, get_or, length-drop, set, get_or-append, take-append-drop}
use lib.Seq.{ext_get_or, get_or-drop, drop-append-le}
use Rattle.laws.specs.Bits.{from_bits}
use Rattle.laws.specs.Lists.{tabulate_from, tabulate}
use Rattle.laws.specs.Front.{at_front}
use Rattle.laws.proofs.Lists.{length-tabulate, get_d_tabulate, same-tabulate, take-tabulate}
use Rattle.laws.proofs.Filling.{Tabling, tabling-goes-on}
use Rattle.laws.proofs.Lending.{regained}
use Rattle.sets.specs.Sets.{bit_of, tests, set_of}
use Rattle.stops.specs.Cuts.{unbroken}
use Rattle.rules.specs.declared.Lines.{Lines}
use Rattle.rules.specs.Tests.{window}
use Rattle.rules.specs.Marking.{newest_first, marks_at}
use Rattle.rules.specs.Columns.{fitting}
use Rattle.rules.specs.Codes.{code_at, CodesOf, last_of, column, down_bit, read_codes, marks_read, fits_at}
use Rattle.rules.proofs.Columns.{reads-marks, reads-far}
use Rattle.rules.proofs.Parts.{regained-at}
use Rattle.rules.proofs.Signs.{length-newest, codes-show}

-- ---- the last entries of a list

last-at : (cs : List ℕ) (i n k : ℕ) → k < n → get_or (last_of cs i n) k 0 ≡ get_or cs (i + (n - 1 - k)) 0
last-at cs i zero k h = absurd (omega arith)
last-at cs i (suc zero) zero h = let e : i ≡ i + (1 - 1 - 0) = omega arith in ap (λ (j : ℕ). get_or cs j 0) e
last-at cs i (suc zero) (suc k) h = absurd (omega arith)
last-at cs i (suc (suc n)) zero h = let e : i + suc n ≡ i + (suc (suc n) - 1 - 0) = omega arith in ap (λ (j : ℕ). get_or cs j 0) e
last-at cs i (suc (suc n)) (suc k) h =
    let e : i + (suc n - 1 - k) ≡ i + (suc (suc n) - 1 - suc k) = omega arith in
    last-at cs i (suc n) k (le_of_suc-le-suc h) ∙ ap (λ (j : ℕ). get_or cs j 0) e

length_last : (cs : List ℕ) (i n : ℕ) → length (last_of cs i n) ≡ n
length_last cs i zero = refl
length_last cs i (suc zero) = refl
length_last cs i (suc (suc n)) = ap suc (length_last cs i (suc n))

-- ---- the first fourteen positions

pub fits-are : (i : ℕ) → i < 14 → fits_at i ≡ fitting (suc i)
unfolding fits_at fitting set_of tests from_bits window tabulate_from
fits-are i h = get_d_tabulate (λ j. fitting (suc j)) 14 i 0 h

-- a table whose first k entries are written anew
module _ (f g h : ℕ → ℕ) (k n : ℕ) (old : List ℕ) (few : k ≤ n)
    (low : (i : ℕ) → i < k → f i ≡ h i) (high : (i : ℕ) → k ≤ i → i < n → g i ≡ h i) where
  front : tabulate f k ≡ take k (tabulate h n)
  front = same-tabulate f h k low ∙ sym (take-tabulate h k n few)

  back : drop k (tabulate g n) ≡ drop k (tabulate h n)
  back = ext_get_or 0 (drop k (tabulate g n)) (drop k (tabulate h n))
      (length-drop k (tabulate g n) ∙ ap (λ (m : ℕ). m - k) (length-tabulate g n ∙ sym (length-tabulate h n)) ∙ sym (length-drop k (tabulate h n)))
      (λ i q. let inside : k + i < n = omega (arith, length-drop k (tabulate g n), length-tabulate g n) in
      get_or-drop k (tabulate g n) i 0
      ∙ get_d_tabulate g n (k + i) 0 inside
      ∙ high (k + i) (omega arith) inside
      ∙ sym (get_or-drop k (tabulate h n) i 0 ∙ get_d_tabulate h n (k + i) 0 inside))

  patched : at_front (tabulate f k) (at_front (tabulate g n) old) ≡ at_front (tabulate h n) old
  patched =
      let rest = drop (length (tabulate g n)) old in
      ap (λ (m : ℕ). tabulate f k ++ drop m (tabulate g n ++ rest)) (length-tabulate f k)
      ∙ ap₂ ◌++◌ front (drop-append-le k (tabulate g n) rest (omega (arith, length-tabulate g n)) ∙ ap (λ (xs : List ℕ). xs ++ rest) back)
      ∙ sym (append_assoc (take k (tabulate h n)) (drop k (tabulate h n)) rest)
      ∙ ap₂ (λ (xs : List ℕ) (m : ℕ). xs ++ drop m old) (take-append-drop k (tabulate h n)) (length-tabulate g n ∙ sym (length-tabulate h n))

-- ---- the marks read, one after the other

pub reads_on : (mask : ℕ) (cs : List ℕ) (m : ℕ) (old now : List ℕ) (i : ℕ) → Tabling (marks_read mask cs) m old now i → i < m
    → (x : ℕ) → x ≡ from_bits (read_codes (last_of cs i 15)) → Tabling (marks_read mask cs) m old (set now i (bit_and mask x)) (i + 1)
unfolding marks_read
reads_on mask cs m old now i t h x e = tabling-goes-on (marks_read mask cs) m old now i t (bit_and mask x) h (ap (bit_and mask) e)

-- ---- the codes in their room

-- the part of c from i on was lent, and the codes of a series put at its front
pub codes-there : (set : ℕ) (l : Lines) (values : List Float) (c part : List ℕ) (i : ℕ) → i ≤ length c → CodesOf set l values part
    → (j : ℕ) → j < length values → get_or (regained c i part) (i + j) 0 ≡ code_at set l (get_or values 0 nan) values j
codes-there set l values c part i h made j q = regained-at c i part h j ∙ made.at j q

-- ---- the marks of a block, before which the first p of the values come

module _ (set : ℕ) (l : Lines) (values : List Float) (p : ℕ) (cs : List ℕ) (near : p ≤ 14)
    (there : (j : ℕ) → j < length values → get_or cs (14 - p + j) 0 ≡ code_at set l (get_or values 0 nan) values j) where
  -- the fifteen codes from i on end at position p + i
  module _ (i : ℕ) (inside : p + i < length values) where
    abbrev ws : List ℕ
    ws = last_of cs i 15

    are : (k : ℕ) → k < 15 → k ≤ p + i → get_or ws k 0 ≡ code_at set l (get_or values 0 nan) values (p + i - k)
    are k h q =
        let e : i + (15 - 1 - k) ≡ 14 - p + (p + i - k) = omega arith in
        last-at cs i 15 k h ∙ ap (λ (j : ℕ). get_or cs j 0) e ∙ there (p + i - k) (omega arith)

    read-far : 14 ≤ p + i → marks_read set cs i ≡ marks_at unbroken l set values (p + i)
    unfolding marks_read marks_at read_codes
    read-far far =
        reads-far l (newest_first unbroken values (suc (p + i))) (λ t. column (bit_of t) ws) (λ t. column (down_bit t) ws) set
        (codes-show set l values (p + i) ws (length_last cs i 15) are) (omega (arith, length-newest values (suc (p + i))))

    read-near : bit_and (marks_read set cs i) (fitting (suc (p + i))) ≡ marks_at unbroken l set values (p + i)
    unfolding marks_read marks_at read_codes
    read-near =
        reads-marks l (newest_first unbroken values (suc (p + i))) (λ t. column (bit_of t) ws) (λ t. column (down_bit t) ws) set
        (codes-show set l values (p + i) ws (length_last cs i 15) are) (suc (p + i)) (sym (length-newest values (suc (p + i))))

  -- what was read, less what does not fit among the first k
  pub block-marks : (k n : ℕ) (old read fitted : List ℕ) → n ≡ length values - p → k ≤ n → p + k ≤ 14
      → ((i : ℕ) → i < 14 - p → i < n → i < k)
      → read ≡ at_front (tabulate (marks_read set cs) n) old
      → fitted ≡ at_front (tabulate (λ i. bit_and (get_or read i 0) (fits_at (p + i))) k) read
      → fitted ≡ at_front (tabulate (λ i. marks_at unbroken l set values (p + i)) n) old
  block-marks k n old read fitted many few small all was is =
      is
      ∙ ap (at_front (tabulate (λ i. bit_and (get_or read i 0) (fits_at (p + i))) k)) was
      ∙ patched (λ i. bit_and (get_or read i 0) (fits_at (p + i))) (marks_read set cs) (λ i. marks_at unbroken l set values (p + i)) k n old few
      (λ i h. ap₂ bit_and (here i h) (fits-are (p + i) (omega arith)) ∙ read-near i (omega arith))
      (λ i h q. read-far i (omega arith) (late i h q))
    where
      here : (i : ℕ) → i < k → get_or read i 0 ≡ marks_read set cs i
      here i h =
          let R = tabulate (marks_read set cs) n in
          ap (λ (r : List ℕ). get_or r i 0) was
          ∙ get_or-append R (drop (length R) old) 0 i (omega (arith, length-tabulate (marks_read set cs) n))
          ∙ get_d_tabulate (marks_read set cs) n i 0 (omega arith)

      late : (i : ℕ) → k ≤ i → i < n → 14 ≤ p + i
      late i h q = by (ltb i (14 - p)) refl
        where
          by : (b : Bool) → ltb i (14 - p) ≡ b → 14 ≤ p + i
          by true e = absurd (omega (arith, all i (ltb-true i (14 - p) e) q))
          by false e = omega (arith, ltb-false i (14 - p) e)

-- a block before which nothing comes
pub one_block : (f : ℕ → ℕ) (n : ℕ) (old now : List ℕ) → now ≡ at_front (tabulate (λ i. f (0 + i)) (n - 0)) old → now ≡ at_front (tabulate f n) old
one_block f n old now e = e ∙ ap₂ (λ (g : ℕ → ℕ) (m : ℕ). at_front (tabulate g m) old) (fun_ext (λ i. ap f (zero-add i))) (sub-zero n)
