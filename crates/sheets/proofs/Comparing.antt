-- Right marks against stated ones, point by point. Assumes nothing.
use Prim.Native.Nat.{ℕ, zero, suc, ◌+◌, ◌≤◌, ◌<◌}
use native.Mathlib.Numerals.{add-one}
use native.Mathlib.Omega.{arith}
use mathlib.Core.Path.{◌≡◌, refl, sym, ap, ◌∙◌}
use mathlib.Core.Bool.{cond}
use mathlib.Core.List.{List, [], ◌∷◌}
use lib.Dec.{eqb}
use lib.ListN.{length, drop, get_or, drop_of_length-le}
use lib.Seq.{drop-cons}
use borrow.Author.Tests.{eq-eqb, ne_eqb}
use Rattle.sheets.specs.Answers.{Verdict, first_wrong}

module _ (right stated : List ℕ) where
  -- the first wrong marks from point i on
  abbrev wrong_from : ℕ → Verdict
  wrong_from i = first_wrong i (drop i right) (drop i stated)

  none_left : (i : ℕ) → length right ≤ i → wrong_from i ≡ (0, 0, 0, 0)
  unfolding first_wrong
  none_left i h = rw (drop_of_length-le right h) refl

  module _ (same : length right ≡ length stated) (i : ℕ) (h : i < length right) where
    point : wrong_from i ≡ cond (eqb (get_or right i 0) (get_or stated i 0)) (wrong_from (i + 1)) (11, i, get_or right i 0, get_or stated i 0)
    unfolding first_wrong
    point =
        let there : i < length stated = omega arith in
        rw (drop-cons right i 0 h, drop-cons stated i 0 there, add-one i) refl

    point-right : get_or right i 0 ≡ get_or stated i 0 → wrong_from i ≡ wrong_from (i + 1)
    point-right e = point ∙ simp (eq-eqb (get_or right i 0) (get_or stated i 0) e)

    point-wrong : (get_or right i 0 ≡ get_or stated i 0 → ⊥) → (11, i, get_or right i 0, get_or stated i 0) ≡ wrong_from i
    point-wrong e = sym (point ∙ simp (ne_eqb (get_or right i 0) (get_or stated i 0) e))

  module _ (same : length right ≡ length stated) where
    -- the points before i are right
    skipped : (i : ℕ) → i ≤ length right → ((k : ℕ) → k < i → get_or right k 0 ≡ get_or stated k 0) → wrong_from 0 ≡ wrong_from i
    skipped zero h before = refl
    skipped (suc i) h before =
        let one : i + 1 ≡ suc i = omega arith in
        skipped i (omega arith) (λ k l. before k (omega arith))
        ∙ point-right same i (omega arith) (before i (omega arith))
        ∙ ap wrong_from one

    pub all-right : ((k : ℕ) → k < length right → get_or right k 0 ≡ get_or stated k 0) → (0, 0, 0, 0) ≡ first_wrong 0 right stated
    all-right each = sym (skipped (length right) (omega arith) each ∙ none_left (length right) (omega arith))

    pub first-differs : (i : ℕ) → i < length right → (get_or right i 0 ≡ get_or stated i 0 → ⊥)
        → ((k : ℕ) → k < i → get_or right k 0 ≡ get_or stated k 0) → (11, i, get_or right i 0, get_or stated i 0) ≡ first_wrong 0 right stated
    first-differs i h other before = point-wrong same i h other ∙ sym (skipped i (omega arith) before)

-- nothing is wrong where they are the same
pub all_right : (i : ℕ) (ms : List ℕ) → first_wrong i ms ms ≡ (0, 0, 0, 0)
unfolding first_wrong
all_right i [] = refl
all_right i (m ∷ ms) = simp (eq-eqb m m refl) (all_right (suc i) ms)
