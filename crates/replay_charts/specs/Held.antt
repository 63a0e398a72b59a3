-- What of a chart's answers is as it ought to be. Definitions only.
use Rattle.std.specs.Prelude.{Result, ◌≡◌, Bool, true, cond, ◌&&◌, ◌||◌, List, ℕ, eqb, take}
use Rattle.std.specs.Float.{binary64}
use Rattle.std.specs.Float.Ieee.{to_bits}
use Rattle.laws.specs.Bools.{one}
use Rattle.lists.specs.Ours.{all_bits, in_groups, all_are}
use Rattle.numbers.specs.Numbers.{numbered}
use Rattle.charts.specs.declared.Refusal.{Refusal}
use Rattle.charts.specs.Records.{number}
use Rattle.replay_charts.specs.declared.answers.Answers.{Answers}
use Rattle.replay_charts.specs.declared.Left.{Left}
use Rattle.replay_charts.specs.Answer.{Series, apart, answer_of}

-- 01's number of an answer
abbrev pub told : {A : Type 0} → Result A Refusal → ℕ
told = numbered number

-- "Each of the two sigma figures is then refused by the same number", but for 15 and 21; that none stands is said at 8 only
abbrev pub refused_alike : Answers → Bool
refused_alike a =
    cond (eqb (told a.evaluated) 0) true
    ((apart (told a.evaluated) || (eqb (told a.sigma_hat) (told a.evaluated) && eqb (told a.sigma_hat_df) (told a.evaluated)))
    && eqb (one a.none_stands) (one (eqb (told a.evaluated) 8)))

-- the slices are behind the answer as they ought to be
abbrev pub rest_is : Left → Series → Bool
rest_is left s =
    ((all_are (all_bits s.main) left.n (to_bits binary64 left.point) && all_are (all_bits s.dispersion) left.d (to_bits binary64 left.point))
    && all_are s.main_marks left.n left.marks)
    && all_are s.dispersion_marks left.d left.marks

-- the series that are left of the slices
abbrev pub cut : Left → Series → Series
cut left s = record {
  main = take left.n s.main;
  dispersion = take left.d s.dispersion;
  main_marks = take left.n s.main_marks;
  dispersion_marks = take left.d s.dispersion_marks;
}

-- the stored answer is ours, and what is not stored is as it ought to be
pub record Held (stored : List ℕ) (a : Answers) (left : Left) (s : Series) : Type 0 where
  pub answer : in_groups (answer_of a (cut left s)) ≡ stored
  pub alike : refused_alike a ≡ true
  pub rest : rest_is left s ≡ true
