-- The number of marks: the code counts the ones of each point's marks, and those are the pairs of the point and a test. Assumes nothing.
use Rattle.std.proofs.Common.{◌≡◌, ℕ, zero, suc, ◌+◌, ◌≤◌, Bool, ◌&&◌, true, false, List, [], ◌∷◌, ◌*◌, map, length, take, sym, refl, ap, ◌∙◌, ap₂, arith, length-take}
use mathlib.Core.Path.{fun_ext}
use lib.Count.{ones}
use Rattle.std.proofs.lemmas.List.Sums.{sum_by-cons}
use lib.Ieee.{Float}
use Rattle.laws.specs.Bools.{count}
use Rattle.laws.specs.Lists.{tabulate_from}
use Rattle.laws.proofs.FirstBits.{ones-from_bits}
use Rattle.sets.specs.declared.Test.{Test}
use Rattle.sets.specs.Sets.{tests, has, set_of}
use Rattle.sets.proofs.Sets.{has-set_of}
use Rattle.rules.specs.Terms.{Terms}
use Rattle.rules.specs.Marking.{newest_first, stands, marks_at, cuts_of, lines_for, marks_of, most, answer_of, marks_after}
use Rattle.rules.proofs.Meaning.{length-marks}
use Rattle.rules.proofs.Accepted.{marks-front}
use Rattle.evaluating.specs.Evaluating.{number_of}
use Rattle.evaluating.specs.Steps.{ones_in}

-- ---- what it counts

-- the marks of a point are a set of tests: as many ones as tests
ones-set : (p : Test → Bool) → ones (set_of p) ≡ count (map (has (set_of p)) tests)
unfolding set_of
ones-set p = ones-from_bits (map p tests) ∙ ap (λ (q : Test → Bool). count (map q tests)) (sym (fun_ext (has-set_of p)))

module _ (p : ℕ → Test → Bool) where
  ones-sets : (i n : ℕ) → ones_in (tabulate_from (λ k. set_of (p k)) i n) ≡ number_of (tabulate_from (λ k. set_of (p k)) i n)
  unfolding number_of tabulate_from
  ones-sets i zero = refl
  ones-sets i (suc n) =
      sum_by-cons ones (set_of (p i)) (tabulate_from (λ k. set_of (p k)) (suc i) n) ∙ ap₂ ◌+◌ (ones-set (p i)) (ones-sets (suc i) n)

pub ones-marks : (terms : Terms) (set : ℕ) (values : List Float) → ones_in (marks_of terms set values) ≡ number_of (marks_of terms set values)
unfolding marks_of marks_at
ones-marks terms set values = ones-sets (λ i t. has set t && stands (lines_for terms) (newest_first (cuts_of terms) values (suc i)) t) 0 (length values)

-- ---- how many there are at most

count-most : (bs : List Bool) → count bs ≤ length bs
unfolding count
count-most [] = omega arith
count-most (true ∷ bs) = omega (arith, count-most bs)
count-most (false ∷ bs) = omega (arith, count-most bs)

-- a point has one mark for each test at most
number-most : (marks : List ℕ) → number_of marks ≤ 9 * length marks
unfolding number_of tests
number-most [] = omega arith
number-most (m ∷ marks) = omega (arith, count-most (map (has m) tests), number-most marks)

pub marks-few : (terms : Terms) (set : ℕ) (values : List Float) → length values ≤ most → number_of (marks_of terms set values) ≤ 65536
marks-few terms set values few = omega (arith, number-most (marks_of terms set values), length-marks terms set values)

-- ---- the marks at the front of their slice

pub front-few : (n : ℕ) (l : List ℕ) → n ≤ most → length (take n l) ≤ most
front-few n l h = omega (arith, length-take n l)

pub marks-counted : (terms : Terms) (set : ℕ) (values : List Float) (old : List ℕ) → answer_of terms set values (length old) ≡ 0
    → {n : ℕ} {now : List ℕ} → now ≡ marks_after terms set values old → n ≡ ones_in (take (length values) now)
    → n ≡ number_of (marks_of terms set values)
marks-counted terms set values old accepted e f =
    f
    ∙ ap (λ (l : List ℕ). ones_in (take (length values) l)) e
    ∙ ap ones_in (marks-front terms set values old accepted)
    ∙ ones-marks terms set values
