-- What a mark means, test by test and for every test at once; a mark is inside the set; the marks of a prefix. Assumes nothing.
use mathlib.Core.Path.{◌≡◌, refl, sym, ap, ap₂, ◌∙◌, fun_ext}
use mathlib.Core.Bool.{Bool, ◌&&◌, cond, and_self_left}
use mathlib.Core.List.{List, [], ◌∷◌}
use Prim.Native.Nat.{ℕ, zero, suc, ◌≤◌, ◌<◌}
use native.Mathlib.Omega.{arith}
use lib.Bits.{bit_and, and_comm}
use lib.Ieee.{Float, nan}
use lib.ListN.{length, take, get_or}
use lib.Seq.{get_or-take, length-take-le}
use Rattle.laws.specs.Lists.{tabulate}
use Rattle.laws.proofs.Lists.{take-tabulate, same-tabulate, length-tabulate, get_d_tabulate}
use Rattle.sets.specs.declared.Test.{Test}
use Rattle.sets.specs.Sets.{has, set_of}
use Rattle.sets.proofs.Sets.{has-set_of, set_of-lt, and-set_of}
use Rattle.rules.specs.declared.Lines.{Lines}
use Rattle.rules.specs.Terms.{Terms}
use Rattle.rules.specs.Marking.{newest_first, stands, marks_at, cuts_of, lines_for, marks_of}

module _ (cut : ℕ → Bool) (l : Lines) (set : ℕ) (values : List Float) (i : ℕ) where
  -- A test is marked at a position exactly where the set has it and its window that ends there fits and shows its pattern.
  pub marked : (t : Test) → has (marks_at cut l set values i) t ≡ (has set t && stands l (newest_first cut values (suc i)) t)
  unfolding marks_at
  marked t = has-set_of (λ u. has set u && stands l (newest_first cut values (suc i)) u) t

  -- A mark is always inside the set.
  pub marks-inside : bit_and (marks_at cut l set values i) set ≡ marks_at cut l set values i
  unfolding marks_at
  marks-inside =
      let past = newest_first cut values (suc i) in
      and_comm (marks_at cut l set values i) set
      ∙ and-set_of set (λ t. has set t && stands l past t) ∙ ap set_of (fun_ext (λ t. and_self_left (has set t) (stands l past t)))

  -- And it is a set's number.
  pub marks-lt : marks_at cut l set values i < 512
  unfolding marks_at
  marks-lt = set_of-lt (λ t. has set t && stands l (newest_first cut values (suc i)) t)

-- ---- the marks of a series, one for each value

module _ (terms : Terms) (set : ℕ) (values : List Float) where
  pub length-marks : length (marks_of terms set values) ≡ length values
  unfolding marks_of
  length-marks = length-tabulate (marks_at (cuts_of terms) (lines_for terms) set values) (length values)

  pub marks-at : (i : ℕ) → i < length values → get_or (marks_of terms set values) i 0 ≡ marks_at (cuts_of terms) (lines_for terms) set values i
  unfolding marks_of
  marks-at i h = get_d_tabulate (marks_at (cuts_of terms) (lines_for terms) set values) (length values) i 0 h

  newest-take : (n k : ℕ) → k ≤ n → newest_first (cuts_of terms) (take n values) k ≡ newest_first (cuts_of terms) values k
  unfolding newest_first
  newest-take n zero h = refl
  newest-take n (suc k) h =
      ap₂ (λ (v : Float) (w : List Float). v ∷ cond (cuts_of terms k) [] w) (get_or-take n values k nan h) (newest-take n k (omega arith))

  -- The marks of a prefix are the prefix of the marks.
  pub marks-of-prefix : (n : ℕ) → n ≤ length values → marks_of terms set (take n values) ≡ take n (marks_of terms set values)
  unfolding marks_of marks_at
  marks-of-prefix n h =
      let cut = cuts_of terms in
      let l = lines_for terms in
      ap (tabulate (marks_at cut l set (take n values))) (length-take-le n values h)
      ∙ same-tabulate (marks_at cut l set (take n values)) (marks_at cut l set values) n
      (λ k q. ap (λ (past : List Float). set_of (λ t. has set t && stands l past t)) (newest-take n (suc k) q))
      ∙ sym (take-tabulate (marks_at cut l set values) n (length values) h)
