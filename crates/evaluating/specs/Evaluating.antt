-- Evaluating: its answer, and what each lent slice then holds (01, 'The charts', last paragraph; 'Numbers a call may give back', rows 3, 6,
-- 7 and 8, and Order; 02, R-1 and R-5: rows 15 and 21). Definitions only.
use Rattle.std.specs.Prelude.{ℕ, ◌+◌, Bool, cond, not, ◌&&◌, ◌||◌, List, [], ◌∷◌, map, length, ◌==◌, nat_lt, Result, Ok, Err}
use Rattle.laws.specs.Bools.{count}
use Rattle.laws.specs.Refusals.{first_of}
use Rattle.stops.specs.Stops.{stops_wrong}
use Rattle.sets.specs.Sets.{tests, has}
use Rattle.rules.specs.declared.Limits.{Limits}
use Rattle.floats.specs.Finite.{all_finite}
use Rattle.floats.specs.Values.{plus_zero}
use Rattle.rules.specs.Finite.{finite_limits}
use Rattle.rules.specs.Lines.{width_wrong}
use Rattle.rules.specs.Terms.{under}
use Rattle.rules.specs.Marking.{marks_of}
use Rattle.charts.specs.declared.Chart.{Chart}
use Rattle.charts.specs.declared.Refusal.{Refusal}
use Rattle.evaluating.specs.declared.Evaluation.{Evaluation}
use Rattle.charts.specs.Records.{number, by_kind, record_wrong}
use Rattle.evaluating.specs.Asked.{Asked, stored, stops_among}
use Rattle.evaluating.specs.Series.{points_in, series_of, moving_in}
use Rattle.evaluating.specs.Limits.{limits_of}

-- ---- the number and the values that each answer stands for

pub record Answer : Type 0 where
  pub number : ℕ
  pub main : Limits
  pub dispersion : Limits
  pub marks : ℕ
  pub none_stands : Bool

abbrev pub zero_limits : Limits
zero_limits = record { ucl = plus_zero; cl = plus_zero; lcl = plus_zero }

abbrev pub answer_done : Limits → Limits → ℕ → Answer
answer_done main dispersion marks = record {
  number = 0;
  main = main;
  dispersion = dispersion;
  marks = marks;
  none_stands = (marks == 0);
}

-- "zero for numbers", and "Refusal 8 in evaluating says that no mark stands ..; other refusals don't say so"
abbrev pub answer_refused : ℕ → Answer
answer_refused n = record { number = n; main = zero_limits; dispersion = zero_limits; marks = 0; none_stands = (n == 8) }

abbrev pub evaluated : Result Evaluation Refusal → Answer
evaluated (Ok e) = answer_done e.main e.dispersion e.marks
evaluated (Err why) = answer_refused (number why)

-- ---- "Evaluate: 14, 8, 6, 3 for stored values, 7.", with 15 "after 14 in evaluating" and 21 "after 14 and 15"

-- 15: "stops not strictly rising, outside 1 to the main series' points less one, or more than the list holds"
unfoldable pub positions_wrong : Chart → List ℕ → Bool
positions_wrong c positions = nat_lt (length positions) c.stops || stops_wrong (points_in c 0) (stops_among c positions)

-- 8: "no subgroup, or fewer than 2 observations"
unfoldable pub too_few : Chart → Bool
too_few c = by_kind c.kind (nat_lt c.count 2) (nat_lt c.count 1) (nat_lt c.count 1)

-- 6: "a lent slice is shorter than needed". The lengths are those of the lent slices.
unfoldable pub no_room : Chart → ℕ → ℕ → ℕ → ℕ → Bool
no_room c main dispersion main_marks dispersion_marks =
    nat_lt main (points_in c 0) || nat_lt main_marks (points_in c 0) || nat_lt dispersion (points_in c 1) || nat_lt dispersion_marks (points_in c 1)

-- 7: "a computed point or limit is not finite"
unfoldable pub sound : Asked → Bool
sound a = all_finite (series_of a 0) && all_finite (series_of a 1) && (finite_limits (limits_of a 0) && finite_limits (limits_of a 1))

-- All of them; `wrong` says whether 15 applies, `bad_width` whether 21 does, `short` whether 6 does. The sigma figures have theirs by this
-- list too ("14, 8, 3, 7, as evaluating would"): they are lent no positions, given no width mode and lent no slice that could be refused.
abbrev pub refusals : Asked → Bool → Bool → Bool → List (Bool × ℕ)
refusals a wrong bad_width short =
    (record_wrong a.chart (length a.values), 14)
    ∷ (wrong, 15)
    ∷ (bad_width, 21)
    ∷ (too_few a.chart, 8)
    ∷ (short, 6)
    ∷ (not (all_finite (stored a)), 3)
    ∷ (not (sound a), 7)
    ∷ []

-- ---- marks

-- the marks of a series
unfoldable pub series_marks : Asked → ℕ → List ℕ
series_marks a s =
    marks_of (under (limits_of a s) a.width (stops_among a.chart a.positions) (moving_in a.chart s)) a.chart.set.mask (series_of a s)

-- "the number of marks (pairs of point and test, ..)"
unfoldable pub number_of : List ℕ → ℕ
number_of [] = 0
number_of (m ∷ marks) = count (map (has m) tests) + number_of marks

-- ---- the answer

abbrev pub done_of : Asked → Answer
done_of a = answer_done (limits_of a 0) (limits_of a 1) (number_of (series_marks a 0) + number_of (series_marks a 1))

-- the answer that goes with a number
unfoldable pub answer_for : ℕ → Asked → Answer
answer_for n a = cond (n == 0) (done_of a) (answer_refused n)

unfoldable pub evaluate_of : Asked → Bool → Answer
evaluate_of a short = answer_for (first_of (refusals a (positions_wrong a.chart a.positions) (width_wrong a.width) short) 0) a
