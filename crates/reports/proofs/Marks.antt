-- The marks of a point, test by test, and those of a series, point by point. Assumes nothing.
use mathlib.Core.Path.{◌≡◌, refl, sym, ap, ap₂, ◌∙◌}
use mathlib.Core.Bool.{Bool, true, false, cond}
use mathlib.Core.List.{List, [], ◌∷◌, ◌++◌, map, append_assoc}
use Prim.Native.Nat.{ℕ, suc, ◌+◌, ◌≤◌, ◌<◌}
use native.Mathlib.Omega.{arith}
use lib.ListN.{length, get_or, drop, drop_of_length-le, length-append}
use Rattle.laws.specs.Bools.{count}
use Rattle.laws.specs.Bits.{has_bit}
use Rattle.sets.specs.declared.Test.{Test}
use Rattle.sets.specs.declared.Test.TheVariants.{BeyondLimits}
use Rattle.sets.specs.Sets.{tests, test_of, has}
use Rattle.sets.proofs.Sets.{bit-of-test}
use Rattle.sets.proofs.Members.{none-tests}
use Rattle.evaluating.specs.Evaluating.{number_of}
use Rattle.reports.specs.Text.{decimal, line, Mark, mark, v_line, v_lines, marks_in, point_marks, listed, both_marks}
use Rattle.reports.specs.declared.text.Word.TheVariants.{Decimal}
use Rattle.reports.specs.TextSteps.{words_of}
use Rattle.reports.proofs.Words.{next-is}

-- ---- the tests by their bits

tests-next : (t : ℕ) → t < 9 → drop t tests ≡ test_of t ∷ drop (t + 1) tests
unfolding tests test_of
tests-next t h = next-is tests t BeyondLimits h

tests-end : (t : ℕ) → 9 ≤ t → drop t tests ≡ []
unfolding tests
tests-end t h = drop_of_length-le tests h

-- ---- the marks of a point

module _ (series index m : ℕ) where
  -- those of the tests from t on
  abbrev pub marks_from : ℕ → List Mark
  marks_from t = marks_in series index m (drop t tests)

  in-cons : (b : Bool) (t : Test) (ts : List Test) → has m t ≡ b
      → marks_in series index m (t ∷ ts) ≡ cond b (mark series index t ∷ []) [] ++ marks_in series index m ts
  unfolding marks_in
  in-cons b t ts e = ap (λ (b : Bool). cond b (mark series index t ∷ []) [] ++ marks_in series index m ts) e

  next-by : (b : Bool) (t : ℕ) → t < 9 → has_bit m t ≡ b → marks_from t ≡ cond b (mark series index (test_of t) ∷ []) [] ++ marks_from (t + 1)
  unfolding has
  next-by b t h e =
      ap (marks_in series index m) (tests-next t h)
      ∙ in-cons b (test_of t) (drop (t + 1) tests) (ap (has_bit m) (bit-of-test t h) ∙ e)

  pub test_on : (t : ℕ) → t < 9 → has_bit m t ≡ true → marks_from t ≡ mark series index (test_of t) ∷ marks_from (t + 1)
  test_on t h e = next-by true t h e

  pub test-off : (t : ℕ) → t < 9 → has_bit m t ≡ false → marks_from t ≡ marks_from (t + 1)
  test-off t h e = next-by false t h e

  pub tests-done : (t : ℕ) → 9 ≤ t → marks_from t ≡ []
  unfolding marks_in
  tests-done t h = ap (marks_in series index m) (tests-end t h)

-- ---- their lines

-- the line of a mark has the bit of its test
line_of : (series index t : ℕ) → t < 9 → v_line (mark series index (test_of t)) ≡ line 86 (words_of (Decimal series ∷ Decimal index ∷ Decimal t ∷ []))
unfolding words_of
line_of series index t h = ap (λ (k : ℕ). line 86 (decimal series ∷ decimal index ∷ decimal k ∷ [])) (bit-of-test t h)

module _ (series index m t : ℕ) where
  pub lines-on : t < 9 → has_bit m t ≡ true
      → v_lines (marks_from series index m t) ≡ line 86 (words_of (Decimal series ∷ Decimal index ∷ Decimal t ∷ [])) ++ v_lines (marks_from series index m (t + 1))
  unfolding v_lines
  lines-on h e =
      ap v_lines (test_on series index m t h e)
      ∙ ap (λ (l : List ℕ). l ++ v_lines (marks_from series index m (t + 1))) (line_of series index t h)

  pub lines-off : t < 9 → has_bit m t ≡ false → v_lines (marks_from series index m t) ≡ v_lines (marks_from series index m (t + 1))
  lines-off h e = ap v_lines (test-off series index m t h e)

  pub lines-done : 9 ≤ t → v_lines (marks_from series index m t) ≡ []
  unfolding v_lines
  lines-done h = ap v_lines (tests-done series index m t h)

-- ---- the marks of a series

-- where nothing is marked there are none
none_in : (series index : ℕ) (ts : List Test) → marks_in series index 0 ts ≡ []
unfolding marks_in
none_in series index [] = refl
none_in series index (t ∷ ts) = in-cons series index 0 false t ts (none-tests t) ∙ none_in series index ts

pub lines-append : (a b : List Mark) → v_lines (a ++ b) ≡ v_lines a ++ v_lines b
unfolding v_lines
lines-append [] b = refl
lines-append (v ∷ a) b = ap (λ (l : List ℕ). v_line v ++ l) (lines-append a b) ∙ sym (append_assoc (v_line v) (v_lines a) (v_lines b))

module _ (series first : ℕ) (ms : List ℕ) where
  -- those of the points from position i on
  abbrev pub listed_from : ℕ → List Mark
  listed_from i = listed series (first + i) (drop i ms)

  pub listed-all : listed_from 0 ≡ listed series first ms
  listed-all = ap (λ (k : ℕ). listed series k ms) (omega arith)

  pub point-on : (i : ℕ) → i < length ms → listed_from i ≡ point_marks series (first + i) (get_or ms i 0) ++ listed_from (i + 1)
  unfolding listed
  point-on i h =
      let index : suc (first + i) ≡ first + (i + 1) = omega arith in
      ap (listed series (first + i)) (next-is ms i 0 h)
      ∙ ap (λ (k : ℕ). point_marks series (first + i) (get_or ms i 0) ++ listed series k (drop (i + 1) ms)) index

  pub point-off : (i : ℕ) → i < length ms → get_or ms i 0 ≡ 0 → listed_from i ≡ listed_from (i + 1)
  point-off i h z =
      point-on i h
      ∙ ap (λ (l : List Mark). l ++ listed_from (i + 1))
      (ap (point_marks series (first + i)) z ∙ none_in series (first + i) tests)

  pub points-done : (i : ℕ) → length ms ≤ i → listed_from i ≡ []
  unfolding listed
  points-done i h = ap (listed series (first + i)) (drop_of_length-le ms h)

  -- their lines
  pub point-lines : (i : ℕ) → i < length ms
      → v_lines (listed_from i) ≡ v_lines (point_marks series (first + i) (get_or ms i 0)) ++ v_lines (listed_from (i + 1))
  point-lines i h = ap v_lines (point-on i h) ∙ lines-append (point_marks series (first + i) (get_or ms i 0)) (listed_from (i + 1))

  pub lines_end : (i : ℕ) → length ms ≤ i → v_lines (listed_from i) ≡ []
  unfolding v_lines
  lines_end i h = ap v_lines (points-done i h)

-- ---- how many there are: evaluating's number of marks

number_in : (series index m : ℕ) (ts : List Test) → length (marks_in series index m ts) ≡ count (map (has m) ts)
unfolding marks_in count
number_in series index m [] = refl
number_in series index m (t ∷ ts) =
    length-append (cond (has m t) (mark series index t ∷ []) []) (marks_in series index m ts)
    ∙ ap₂ ◌+◌ (by (has m t)) (number_in series index m ts)
  where
    by : (b : Bool) → length (cond b (mark series index t ∷ []) []) ≡ Rattle.laws.specs.Bools.one b
    by true = refl
    by false = refl

pub listed-number : (series index : ℕ) (ms : List ℕ) → length (listed series index ms) ≡ number_of ms
unfolding listed number_of
listed-number series index [] = refl
listed-number series index (m ∷ ms) =
    length-append (point_marks series index m) (listed series (suc index) ms)
    ∙ ap₂ ◌+◌ (number_in series index m tests) (listed-number series (suc index) ms)

pub both-number : (first : ℕ) (marks others : List ℕ) → length (both_marks first marks others) ≡ number_of marks + number_of others
both-number first marks others =
    length-append (listed 0 0 marks) (listed 1 first others) ∙ ap₂ ◌+◌ (listed-number 0 0 marks) (listed-number 1 first others)
