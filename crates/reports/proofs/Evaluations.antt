-- Evaluating the chart of a flow file: nothing but 8 and 7 can be refused once its values are finite, and each answer is what the report
-- tells. Assumes nothing.
use mathlib.Core.Path.{◌≡◌, refl, sym, ap, ◌∙◌}
use mathlib.Core.Bool.{Bool, true, false, not}
use mathlib.Core.List.{List}
use Prim.Native.Nat.{ℕ, ◌+◌, ◌-◌, ◌*◌, ◌≤◌}
use native.Mathlib.Nat.{mul-le-mul_left, le_of_eq}
use native.Mathlib.Decide.{ℕ_discrete}
use native.Mathlib.Omega.{arith}
use borrow.Author.Tests.{le-ltb, eq-eqb, ne_eqb, eqb-true, not-false}
use lib.Dec.{eqb}
use lib.Ieee.{Float}
use lib.ListN.{length, take}
use lib.Seq.{take_all, take_at}
use Rattle.laws.specs.Refusals.{first_of}
use Rattle.laws.specs.Front.{lent_after}
use Rattle.laws.proofs.Lists.{length-tabulate}
use Rattle.laws.proofs.Refusals.{accepted}
use Rattle.floats.specs.Finite.{all_finite}
use Rattle.rules.specs.Lines.{width_wrong}
use Rattle.rules.specs.declared.Limits.{Limits}
use Rattle.rules.specs.Finite.{finite_limits}
use Rattle.rules.specs.Marking.{marks_of}
use Rattle.charts.specs.declared.Chart.{Chart}
use Rattle.charts.specs.declared.Refusal.{Refusal}
use Rattle.charts.specs.Records.{number, by_kind, record_wrong}
use Rattle.charts.proofs.Cases.{kind_1, subgroups}
use Rattle.charts.proofs.Held.{own}
use Rattle.evaluating.specs.declared.Evaluation.{Evaluation}
use Rattle.std.specs.Prelude.{Ok, Err}
use Rattle.evaluating.specs.Asked as asking
use Rattle.evaluating.specs.Asked.{Asked}
use Rattle.evaluating.specs.Series.{points_in, series_of}
use Rattle.evaluating.specs.Limits.{limits_of}
use Rattle.evaluating.specs.Evaluating.{Answer, evaluated, positions_wrong, too_few, no_room, sound, refusals, series_marks, number_of, answer_for, evaluate_of}
use Rattle.evaluating.proofs.SeriesPoints.{points-most, points-moving, points-subgroups, length-series}
use Rattle.evaluating.proofs.Outcomes.{Sound, none-stopped, some-held, sound-parts}
use Rattle.reports.specs.Text.{both_marks, chart_text, r_line}
use Rattle.reports.specs.Report.{first_index, refusal_of, chart_report}
use Rattle.reports.specs.Steps.{size, Legal}

-- ---- the number of an answer

number_is : (n : ℕ) (a : Asked) → (answer_for n a).number ≡ n
unfolding answer_for
number_is n a = by (eqb n 0) refl
  where
    by : (b : Bool) → eqb n 0 ≡ b → (answer_for n a).number ≡ n
    by true e = rw e (sym (eqb-true n 0 e))
    by false e = rw e refl

-- ---- evaluating

-- whether a room of 2,048 for each slice is too short
abbrev pub short : Chart → Bool
short c = no_room c 2048 2048 2048 2048

module _ (c : Chart) (h : Legal c) where
  pub few-samples : c.count ≤ 2048
  few-samples =
      let few : c.count * 1 ≤ c.count * c.size = mul-le-mul_left c.count (own c h.own).some in
      omega (arith, h.few)

  pub points-fit : (s : ℕ) → points_in c s ≤ 2048
  points-fit s = omega (arith, points-most c s, few-samples)

  rooms : short c ≡ false
  unfolding no_room
  rooms = rw (le-ltb 2048 (points_in c 0) (points-fit 0), le-ltb 2048 (points_in c 1) (points-fit 1)) refl

module _ (a : Asked) (h : Legal a.chart) (whole : length a.values ≡ size a.chart) (finite : all_finite a.values ≡ true)
    (mode : width_wrong a.width ≡ false) where
  right : record_wrong a.chart (length a.values) ≡ false
  unfolding record_wrong
  right = rw (h.own, le-ltb (length a.values) (a.chart.count * a.chart.size) (le_of_eq (sym whole))) refl

  stored : not (all_finite (asking.stored a)) ≡ false
  stored = ap (λ (l : List Float). not (all_finite l)) (take_all (size a.chart) a.values (le_of_eq whole)) ∙ ap not finite

  same-refusal : first_of (refusals a (positions_wrong a.chart a.positions) (width_wrong a.width) (short a.chart)) 0 ≡ refusal_of a
  unfolding refusal_of first_of
  same-refusal = rw (right, none-stopped a.chart a.positions h.unstopped, mode, rooms a.chart h, stored, finite) refl

  evaluated-is : evaluate_of a (short a.chart) ≡ answer_for (refusal_of a) a
  unfolding evaluate_of
  evaluated-is = ap (λ (n : ℕ). answer_for n a) same-refusal

  pub refused-so : (why : Refusal) → evaluated (Err why) ≡ evaluate_of a (short a.chart) → number why ≡ refusal_of a
  refused-so why e = ap (λ (r : Answer). r.number) (e ∙ evaluated-is) ∙ number_is (refusal_of a) a

  module _ (e : Evaluation) (is : evaluated (Ok e) ≡ evaluate_of a (short a.chart)) where
    pub done-so : refusal_of a ≡ 0
    done-so = sym (ap (λ (r : Answer). r.number) (is ∙ evaluated-is) ∙ number_is (refusal_of a) a)

    all : evaluated (Ok e) ≡ answer_for 0 a
    all = is ∙ evaluated-is ∙ ap (λ (n : ℕ). answer_for n a) done-so

    pub main-limits : e.main ≡ limits_of a 0
    unfolding answer_for
    main-limits = ap (λ (r : Answer). r.main) all

    pub dispersion-limits : e.dispersion ≡ limits_of a 1
    unfolding answer_for
    dispersion-limits = ap (λ (r : Answer). r.dispersion) all

    pub marks-number : e.marks ≡ number_of (series_marks a 0) + number_of (series_marks a 1)
    unfolding answer_for
    marks-number = ap (λ (r : Answer). r.marks) all

-- the room that the report has for the series and the marks
pub at_room : (a : Asked) {m d x y : ℕ} → m ≡ 2048 → d ≡ 2048 → x ≡ 2048 → y ≡ 2048
    → evaluate_of a (no_room a.chart m d x y) ≡ evaluate_of a (short a.chart)
at_room a m d x y = rw (m, d, x, y) refl

-- ---- what is known where nothing is refused

module _ (a : Asked) (h : refusal_of a ≡ 0) where
  neither : (too_few a.chart ≡ false) × (sound a ≡ true)
  unfolding refusal_of
  neither =
      let past-3 = (accepted (not (all_finite a.values)) 3 _ (omega arith) h).1 in
      let past-8 = accepted (too_few a.chart) 8 _ (omega arith) past-3 in
      (past-8.0, not-false (sound a) (accepted (not (sound a)) 7 _ (omega arith) past-8.1).0)

  pub some-points : 1 ≤ a.chart.count
  some-points = some-held a.chart neither.0

  parts : Sound a 0 × Sound a 1
  parts = sound-parts a neither.1

  pub finite-main : finite_limits (limits_of a 0) ≡ true
  finite-main = parts.0.limits

  pub finite-dispersion : finite_limits (limits_of a 1) ≡ true
  finite-dispersion = parts.1.limits

-- ---- the report

module _ (a : Asked) where
  pub report-refused : (n : ℕ) → n ≡ refusal_of a → (n ≡ 0 → ⊥) → r_line n ≡ chart_report a
  unfolding chart_report
  report-refused n e ne = rw (sym e, ne_eqb n 0 ne) refl

  pub not_finite : all_finite a.values ≡ false → 3 ≡ refusal_of a
  unfolding refusal_of first_of
  not_finite e = rw e refl

  pub report-done : {main dispersion : Limits} {marks others : List ℕ} → refusal_of a ≡ 0
      → main ≡ limits_of a 0 → dispersion ≡ limits_of a 1 → marks ≡ series_marks a 0 → others ≡ series_marks a 1
      → chart_text a.chart.kind a.chart.size a.chart.set.mask main dispersion (both_marks (first_index a.chart) marks others) ≡ chart_report a
  unfolding chart_report
  report-done e u v x y = rw (u, v, x, y, eq-eqb (refusal_of a) 0 e) refl

-- ---- points and indices

-- the points of the second series are those from its first index on
pub points-from : (c : Chart) → c.count - first_index c ≡ points_in c 1
unfolding first_index
points-from c = by (ℕ_discrete c.kind 1)
  where
    by : Dec (c.kind ≡ 1) → c.count - by_kind c.kind 1 0 0 ≡ points_in c 1
    by (yes e) = omega (arith, kind_1 {A = ℕ} c.kind 1 0 0 e, points-moving c 1 (λ z. omega arith) e)
    by (no ne) = omega (arith, subgroups {A = ℕ} c.kind 1 0 ne, points-subgroups c 1 (λ z. omega arith) ne)

pub first_small : (c : Chart) → first_index c ≤ 1
unfolding first_index
first_small c = by (ℕ_discrete c.kind 1)
  where
    by : Dec (c.kind ≡ 1) → by_kind c.kind 1 0 0 ≤ 1
    by (yes e) = le_of_eq (kind_1 c.kind 1 0 0 e)
    by (no ne) = omega (arith, subgroups {A = ℕ} c.kind 1 0 ne)

-- ---- the marks that evaluating leaves in a slice

pub length-marks : (a : Asked) (s : ℕ) → length (series_marks a s) ≡ points_in a.chart s
unfolding series_marks marks_of
length-marks a s = length-tabulate _ (length (series_of a s)) ∙ length-series a s

pub marks-left : (a : Asked) (s : ℕ) (old now : List ℕ) (n : ℕ) → now ≡ lent_after 0 0 (series_marks a s) old
    → n ≡ points_in a.chart s → take n now ≡ series_marks a s
unfolding lent_after
marks-left a s old now n e k = ap (take n) e ∙ take_at (series_marks a s) _ n (length-marks a s ∙ sym k)
