-- What a list has behind '**answer:**' (oracle/FORMAT.md, 'A chart case', 'A chart case with stops' and 'A chart case in a width mode').
-- Definitions only.
use Rattle.std.specs.Prelude.{Result, Ok, Err, Bool, cond, ◌||◌, List, [], ◌∷◌, ◌++◌, ℕ, eqb, Float, length}
use Rattle.std.specs.Float.{binary64}
use Rattle.std.specs.Float.Ieee.{to_bits}
use Rattle.laws.specs.Bools.{one}
use Rattle.lists.specs.Ours.{all_bits}
use Rattle.charts.specs.declared.Refusal.{Refusal}
use Rattle.charts.specs.Records.{number}
use Rattle.evaluating.specs.declared.Evaluation.{Evaluation}
use Rattle.replay_charts.specs.declared.answers.Answers.{Answers}
use Rattle.replay_charts.specs.declared.answers.Lent.{Lent}

-- the series of a chart, and the marks of their points
pub record Series : Type 0 where
  pub main : List Float
  pub dispersion : List Float
  pub main_marks : List ℕ
  pub dispersion_marks : List ℕ

-- those that the code lends
abbrev pub rows : Lent → Series
rows s = record { main = s.main.now; dispersion = s.dispersion.now; main_marks = s.main_marks.now; dispersion_marks = s.dispersion_marks.now }

-- "0 and its f64", or its number alone
abbrev pub figure_of : Result Float Refusal → List ℕ
figure_of (Ok value) = (0 ∷ []) ++ (to_bits binary64 value ∷ [])
figure_of (Err why) = number why ∷ []

-- "sigma_hat", "sigma_hat_df"
abbrev pub figures_of : Answers → List ℕ
figures_of a = figure_of a.sigma_hat ++ figure_of a.sigma_hat_df

-- "the main series", "the dispersion series", "the marks of each main point", "the marks of each dispersion point"
abbrev pub series_of : Series → List ℕ
series_of s = all_bits s.main ++ all_bits s.dispersion ++ s.main_marks ++ s.dispersion_marks

-- "the number of marks", "1 where no mark stands (in control), otherwise 0", and both figures
abbrev pub counts_of : ℕ → Answers → List ℕ
counts_of marks a = (marks ∷ []) ++ (one a.none_stands ∷ []) ++ figures_of a

-- "ucl, cl, lcl of the main series", "ucl, cl, lcl of the dispersion series"
abbrev pub lines_of : Evaluation → List Float
lines_of f = f.main.ucl ∷ f.main.cl ∷ f.main.lcl ∷ f.dispersion.ucl ∷ f.dispersion.cl ∷ f.dispersion.lcl ∷ []

-- the numbers by which evaluating alone refuses
abbrev pub apart : ℕ → Bool
apart n = eqb n 15 || eqb n 21

-- "After 0 there follow" the limits, "d, the number of points of the dispersion series", and the above
abbrev pub found_of : Evaluation → Answers → Series → List ℕ
found_of found a s = all_bits (lines_of found) ++ (length s.dispersion ∷ []) ++ series_of s ++ counts_of found.marks a

-- "After 15" and "After 21 both sigma figures follow"; "After 7 or 8 the case is over"
abbrev pub behind : Answers → Series → Result Evaluation Refusal → List ℕ
behind a s (Ok found) = (0 ∷ []) ++ found_of found a s
behind a s (Err why) = cond (apart (number why)) ((number why ∷ []) ++ figures_of a) (number why ∷ [])

-- "01's number for evaluating", and what follows it
unfoldable pub answer_of : Answers → Series → List ℕ
answer_of a s = behind a s a.evaluated
