-- `report_chart` meets its contract: refused for its values or by evaluating, or told. Assumes nothing.
use mathlib.Core.Path.{◌≡◌, refl, sym, ap, ap₂, ◌∙◌}
use mathlib.Core.Bool.{true}
use mathlib.Core.List.{List}
use Prim.Native.Nat.{ℕ, ◌+◌, ◌-◌}
use native.Mathlib.Omega.{arith}
use borrow.Author.Rules.{rules}
use lib.Ieee.{binary64, of_bits}
use lib.ListN.{length, length-take, take, replicate, length-replicate}
use Rattle.floats.specs.Finite.{all_finite}
use Rattle.rules.specs.Finite.{finite_limits}
use Rattle.charts.specs.Records.{number}
use Rattle.charts.proofs.Answers.{number-some}
use Rattle.std.specs.Prelude.{Result, Ok}
use Rattle.charts.specs.declared.Refusal.{Refusal}
use Rattle.evaluating.specs.declared.Evaluation.{Evaluation}
use Rattle.evaluating.specs.Asked.{asked}
use Rattle.evaluating.specs.Series.{points_in}
use Rattle.evaluating.specs.Limits.{limits_of}
use Rattle.evaluating.specs.Evaluating.{evaluated, evaluate_of, series_marks, number_of}
use Rattle.evaluating.proofs.SeriesPoints.{points-main}
use Rattle.reports.specs.Text.{both_marks, r_line}
use Rattle.reports.specs.Report.{first_index, refusal_of}
use Rattle.reports.specs.Steps.{size, Legal}
use Rattle.reports.proofs.Marks.{both-number}
use Rattle.laws.specs.Front.{lent_after}
use Rattle.laws.proofs.Bools.{told}
use Rattle.laws.proofs.Rooms.{told-as}
use Rattle.reports.proofs.Evaluations.{short, few-samples, points-fit, at_room, refused-so, done-so, main-limits, dispersion-limits, marks-number}
use Rattle.reports.proofs.Evaluations.{some-points, finite-main, finite-dispersion, not_finite, report-refused, report-done}
use Rattle.reports.proofs.Evaluations.{points-from, first_small, length-marks, marks-left}
use Rattle.reports.proofs.report_chart.Goals.{After-evaluate, After-first_index, Else-not-all_finite, In-Ok}
use Rattle.reports.proofs.report_chart.Goals as goal

-- ---- the arguments, and what is known of the values

abbrev legal : (c : Else-not-all_finite) → Legal (asked c.args.chart c.args.values.now).chart
legal c =
    c.requires.legal

abbrev whole : (c : Else-not-all_finite) → length (asked c.args.chart c.args.values.now).values ≡ size (asked c.args.chart c.args.values.now).chart
whole c =
    c.requires.whole

finite : (c : Else-not-all_finite) → all_finite (asked c.args.chart c.args.values.now).values ≡ true
finite c =
    sym c.all_finite.ensures ∙ c.if-not-all_finite.false

-- ---- what evaluating answered

answer : (c : After-evaluate) → evaluated c.evaluate.result ≡ evaluate_of (asked c.args.chart c.args.values.now) (short (asked c.args.chart c.args.values.now).chart)
answer c =
    c.evaluate.ensures.answer
    ∙ at_room (asked c.args.chart c.args.values.now) (length-replicate 2048 (of_bits binary64 0)) (length-replicate 2048 (of_bits binary64 0))
    (length-replicate {A = ℕ} 2048 0) (length-replicate {A = ℕ} 2048 0)

-- the points of the second series
ranges : (c : After-first_index) → (asked c.args.chart c.args.values.now).chart.count - c.first_index.result ≡ points_in (asked c.args.chart c.args.values.now).chart 1
ranges c =
    ap (λ (n : ℕ). (asked c.args.chart c.args.values.now).chart.count - n) c.first_index.ensures.0 ∙ points-from (asked c.args.chart c.args.values.now).chart

-- ---- what is known of an evaluation

done : (c : In-Ok) → evaluated (Ok c.in-Ok.e) ≡ evaluate_of (asked c.args.chart c.args.values.now) (short (asked c.args.chart c.args.values.now).chart)
done c =
    sym (ap evaluated c.in-Ok.is) ∙ (c.evaluate.ensures.answer
    ∙ at_room (asked c.args.chart c.args.values.now) (length-replicate 2048 (of_bits binary64 0)) (length-replicate 2048 (of_bits binary64 0))
    (length-replicate {A = ℕ} 2048 0) (length-replicate {A = ℕ} 2048 0))

none-refused : (c : In-Ok) → refusal_of (asked c.args.chart c.args.values.now) ≡ 0
none-refused c =
    done-so (asked c.args.chart c.args.values.now) c.requires.legal c.requires.whole (search (rules, told)) refl c.in-Ok.e (done c)

main-is : (c : In-Ok) → c.in-Ok.e.main ≡ limits_of (asked c.args.chart c.args.values.now) 0
main-is c =
    main-limits (asked c.args.chart c.args.values.now) c.requires.legal c.requires.whole (search (rules, told)) refl c.in-Ok.e (done c)

dispersion-is : (c : In-Ok) → c.in-Ok.e.dispersion ≡ limits_of (asked c.args.chart c.args.values.now) 1
dispersion-is c =
    dispersion-limits (asked c.args.chart c.args.values.now) c.requires.legal c.requires.whole (search (rules, told)) refl c.in-Ok.e (done c)

number_is : (c : In-Ok)
    → c.in-Ok.e.marks ≡ number_of (series_marks (asked c.args.chart c.args.values.now) 0) + number_of (series_marks (asked c.args.chart c.args.values.now) 1)
number_is c =
    marks-number (asked c.args.chart c.args.values.now) c.requires.legal c.requires.whole (search (rules, told)) refl c.in-Ok.e (done c)

marks-are : (c : In-Ok) → take (asked c.args.chart c.args.values.now).chart.count c.evaluate.new.main_marks ≡ series_marks (asked c.args.chart c.args.values.now) 0
marks-are c =
    marks-left (asked c.args.chart c.args.values.now) 0 (replicate 2048 0) c.evaluate.new.main_marks (asked c.args.chart c.args.values.now).chart.count
    (c.evaluate.ensures.main_marks ∙ ap ((λ (s : ℕ) (r : Result Evaluation Refusal). lent_after (evaluated r).number 0 (series_marks (asked c.args.chart c.args.values.now) s) (replicate 2048 0)) 0) c.in-Ok.is) (sym (points-main (asked c.args.chart c.args.values.now).chart))

others-are : (c : In-Ok) (n : ℕ) → n ≡ points_in (asked c.args.chart c.args.values.now).chart 1
    → take n c.evaluate.new.dispersion_marks ≡ series_marks (asked c.args.chart c.args.values.now) 1
others-are c n e =
    marks-left (asked c.args.chart c.args.values.now) 1 (replicate 2048 0) c.evaluate.new.dispersion_marks n
    (c.evaluate.ensures.dispersion_marks ∙ ap ((λ (s : ℕ) (r : Result Evaluation Refusal). lent_after (evaluated r).number 0 (series_marks (asked c.args.chart c.args.values.now) s) (replicate 2048 0)) 1) c.in-Ok.is) e

pub returns-then-not-all_finite : goal.returns-then-not-all_finite
returns-then-not-all_finite c =
    let args = c.args in
    let wrong = sym c.all_finite.ensures ∙ c.if-not-all_finite.true in
    let all = told-as _ _ args.out.now
    (ap r_line c.number.ensures ∙ report-refused (asked args.chart args.values.now) 3 (not_finite (asked args.chart args.values.now) wrong) (λ e. omega arith))
    (c.refuse.ensures.answer, c.refuse.ensures.room) in
    record { answer = all.0; room = all.1 }

pub overflow_sub-ranges : goal.overflow_sub-ranges
overflow_sub-ranges c =
    omega (arith, some-points (asked c.args.chart c.args.values.now) (none-refused (goal.at.overflow_sub-ranges c).In-Ok), c.first_index.ensures)

pub slice_bounds-marks-end : goal.slice_bounds-marks-end
slice_bounds-marks-end c =
    omega (arith, few-samples (asked c.args.chart c.args.values.now).chart (legal (goal.at.slice_bounds-marks-end c).Else-not-all_finite), c.evaluate.auto.main_marks, length-replicate {A = ℕ} 2048 0)

pub slice_bounds-tell-end : goal.slice_bounds-tell-end
slice_bounds-tell-end c =
    omega (
      arith,
      few-samples (asked c.args.chart c.args.values.now).chart (legal (goal.at.slice_bounds-tell-end c).Else-not-all_finite),
      c.evaluate.auto.main_marks,
      length-replicate {A = ℕ} 2048 0,
      length-take c.args.chart.count c.evaluate.new.main_marks,
    )

pub slice_bounds-others-end : goal.slice_bounds-others-end
slice_bounds-others-end c =
    omega (
      arith,
      points-fit (asked c.args.chart c.args.values.now).chart (legal (goal.at.slice_bounds-others-end c).Else-not-all_finite) 1,
      ranges (goal.at.slice_bounds-others-end c).After-first_index,
      c.evaluate.auto.dispersion_marks,
      length-replicate {A = ℕ} 2048 0,
    )

pub slice_bounds-tell-end-in-Ok : goal.slice_bounds-tell-end-in-Ok
slice_bounds-tell-end-in-Ok c =
    omega (
      arith,
      points-fit (asked c.args.chart c.args.values.now).chart (legal (goal.at.slice_bounds-tell-end-in-Ok c).Else-not-all_finite) 1,
      ranges (goal.at.slice_bounds-tell-end-in-Ok c).After-first_index,
      c.evaluate.auto.dispersion_marks,
      length-replicate {A = ℕ} 2048 0,
      length-take (c.args.chart.count - c.first_index.result) c.evaluate.new.dispersion_marks,
    )

pub tell-requires : goal.tell-requires
tell-requires c =
    let none = none-refused (goal.at.tell-requires c).In-Ok in
    let points = ranges (goal.at.tell-requires c).After-first_index in
    record {
      main = ap finite_limits (main-is (goal.at.tell-requires c).In-Ok) ∙ finite-main (asked c.args.chart c.args.values.now) none;
      dispersion = ap finite_limits (dispersion-is (goal.at.tell-requires c).In-Ok) ∙ finite-dispersion (asked c.args.chart c.args.values.now) none;
      few = omega (arith, ap length (marks-are (goal.at.tell-requires c).In-Ok), length-marks (asked c.args.chart c.args.values.now) 0, points-fit (asked c.args.chart c.args.values.now).chart (legal (goal.at.tell-requires c).Else-not-all_finite) 0);
      few_others = omega (arith, ap length (others-are (goal.at.tell-requires c).In-Ok _ points), length-marks (asked c.args.chart c.args.values.now) 1, points-fit (asked c.args.chart c.args.values.now).chart (legal (goal.at.tell-requires c).Else-not-all_finite) 1);
      start = first_small (asked c.args.chart c.args.values.now).chart;
      number =
          number_is (goal.at.tell-requires c).In-Ok
          ∙ sym (both-number (first_index (asked c.args.chart c.args.values.now).chart) (series_marks (asked c.args.chart c.args.values.now) 0) (series_marks (asked c.args.chart c.args.values.now) 1))
          ∙ sym (ap₂ (λ (m o : List ℕ). length (both_marks (first_index (asked c.args.chart c.args.values.now).chart) m o)) (marks-are (goal.at.tell-requires c).In-Ok) (others-are (goal.at.tell-requires c).In-Ok _ points));
    }

pub returns-in-Err : goal.returns-in-Err
returns-in-Err c =
    let is = sym (ap evaluated c.in-Err.is) ∙ answer (goal.at.returns-in-Err c).After-evaluate in
    let refused = refused-so (asked c.args.chart c.args.values.now) (legal (goal.at.returns-in-Err c).Else-not-all_finite) (whole (goal.at.returns-in-Err c).Else-not-all_finite) (finite (goal.at.returns-in-Err c).Else-not-all_finite) refl c.in-Err.why is in
    let told = report-refused (asked c.args.chart c.args.values.now) (number c.in-Err.why) refused (number-some c.in-Err.why) in
    let all = told-as _ _ c.args.out.now (ap r_line c.number-in-Err.ensures ∙ told) (c.refuse-in-Err.ensures.answer, c.refuse-in-Err.ensures.room) in
    record { answer = all.0; room = all.1 }

pub returns-in-Ok : goal.returns-in-Ok
returns-in-Ok c =
    let all = told-as _ _ c.args.out.now
    (report-done (asked c.args.chart c.args.values.now) (none-refused (goal.at.returns-in-Ok c).In-Ok) (main-is (goal.at.returns-in-Ok c).In-Ok) (dispersion-is (goal.at.returns-in-Ok c).In-Ok) (marks-are (goal.at.returns-in-Ok c).In-Ok)
    (others-are (goal.at.returns-in-Ok c).In-Ok _ (ranges (goal.at.returns-in-Ok c).After-first_index)))
    (c.tell.ensures.answer, c.tell.ensures.room) in
    record { answer = all.0; room = all.1 }
