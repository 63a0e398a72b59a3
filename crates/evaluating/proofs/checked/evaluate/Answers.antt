-- `checked::evaluate` meets its contract: not sound, and all is zero; sound, and both series are marked. Assumes nothing.
use Rattle.std.proofs.Common.{◌≡◌, ℕ, ◌+◌, ap₂, Bool, true, length, take, length-take, sym, refl, ap, ◌∙◌, arith}
use Rattle.laws.proofs.LentAfter.{slice-7, slice-done}
use Rattle.rules.specs.Lines.{width_wrong}
use Rattle.evaluating.specs.declared.ChartLimits.{ChartLimits}
use Rattle.evaluating.specs.Asked.{Asked, asked, interrupted, in_mode}
use Rattle.evaluating.specs.Series.{series_of}
use Rattle.evaluating.specs.Limits.{limits_of}
use Rattle.evaluating.specs.Evaluating.{answer_done, positions_wrong, no_room, sound}
use Rattle.evaluating.proofs.SeriesPoints.{moving-main, moving-is}
use Rattle.evaluating.proofs.Measures.{front-series, same-series, same-measures, wild, right}
use Rattle.evaluating.proofs.Outcomes.{Rooms, rooms, Ahead, were-ahead, number-7, number-0, answer-refused, answer-done}
use Rattle.evaluating.proofs.Outcomes.{counted, sound-parts, marking-done, marks-are, done-by}
use Rattle.evaluating.proofs.checked.evaluate.Goals.{In-Ok, Start}
use Rattle.evaluating.proofs.checked.evaluate.Goals as goal

-- ---- what is asked, and what its tests told

abbrev bare : Start → Asked
bare c = asked c.args.c c.args.values.now

abbrev asks : Start → Asked
asks c = in_mode (interrupted (bare c) c.args.positions.now) c.args.width

abbrev short : Start → Bool
short c = no_room c.args.c (length c.args.main.now) (length c.args.dispersion.now) (length c.args.main_marks.now) (length c.args.dispersion_marks.now)

fine : (c : Start) → Ahead (asks c) (positions_wrong c.args.c c.args.positions.now) (width_wrong c.args.width) (short c)
fine c =
    were-ahead _ _ _ _ c.requires

room : (c : Start)
    → Rooms c.args.c (length c.args.main.now) (length c.args.dispersion.now) (length c.args.main_marks.now) (length c.args.dispersion_marks.now)
room c =
    rooms _ _ _ _ _ (fine c).room

pub measure-requires : goal.measure-requires
measure-requires c =
    let here = (goal.at.measure-requires c).Start in ((room here).main-room, (room here).dispersion-room)

pub invariant_of-held : goal.invariant_of-held
invariant_of-held c =
    record { held = (fine (goal.at.invariant_of-held c).Start).right }

-- ---- not sound

pub returns-in-Err : goal.returns-in-Err
returns-in-Err c =
    let here = (goal.at.returns-in-Err c).Start in
    let found = wild (asks here) (c.in-Err.ensures.limits ∙ sym (same-measures (bare here) c.args.positions.now c.args.width)) in
    rw found.1 (record {
      answer = answer-refused (asks here) (short here) 7
          (number-7 (asks here) (positions_wrong c.args.c c.args.positions.now) (width_wrong c.args.width) (short here) c.requires found.0) (λ z. omega arith);
      main = slice-7 _ _ _ c.measure.new.main c.measure.auto.main c.clear.ensures.main;
      dispersion = slice-7 _ _ _ c.measure.new.dispersion c.measure.auto.dispersion c.clear.ensures.dispersion;
      main_marks = slice-7 _ _ _ c.args.main_marks.now refl c.clear.ensures.main_marks;
      dispersion_marks = slice-7 _ _ _ c.args.dispersion_marks.now refl c.clear.ensures.dispersion_marks;
    })

-- ---- sound

pub slice_bounds-of_main-end : goal.slice_bounds-of_main-end
slice_bounds-of_main-end c =
    omega (arith, length-take c.args.c.stops c.args.positions.now, counted _ _ (fine (goal.at.slice_bounds-of_main-end c).Start).stopped)

pub slice_bounds-mark-end : goal.slice_bounds-mark-end
slice_bounds-mark-end c =
    omega (arith, (room (goal.at.slice_bounds-mark-end c).Start).main-room, c.lengths_in-points.ensures.main, c.measure.auto)

pub slice_bounds-mark-end-in-Ok : goal.slice_bounds-mark-end-in-Ok
slice_bounds-mark-end-in-Ok c =
    omega (arith, length-take c.lengths_in-points.result.main c.measure.new.main, (room (goal.at.slice_bounds-mark-end-in-Ok c).Start).main-room, c.lengths_in-points.ensures.main, c.measure.auto)

pub slice_bounds-mark-end-in-Ok-2 : goal.slice_bounds-mark-end-in-Ok-2
slice_bounds-mark-end-in-Ok-2 c =
    omega (arith, (room (goal.at.slice_bounds-mark-end-in-Ok-2 c).Start).dispersion-room, c.lengths_in-points.ensures.dispersion, c.measure.auto)

pub slice_bounds-mark-end-in-Ok-3 : goal.slice_bounds-mark-end-in-Ok-3
slice_bounds-mark-end-in-Ok-3 c =
    omega (arith, length-take c.lengths_in-points.result.dispersion c.measure.new.dispersion, (room (goal.at.slice_bounds-mark-end-in-Ok-3 c).Start).dispersion-room, c.lengths_in-points.ensures.dispersion, c.measure.auto)

-- what was measured: the limits, and the points at the front of both slices

abbrev plain : In-Ok → Asked
plain c = asked c.args.c c.args.values.now

abbrev whole : In-Ok → Asked
whole c = in_mode (interrupted (plain c) c.args.positions.now) c.args.width

found : (c : In-Ok) → (sound (whole c) ≡ true) × (c.in-Ok.w ≡ record { main = limits_of (whole c) 0; dispersion = limits_of (whole c) 1 })
found c =
    right (whole c) (c.in-Ok.ensures.limits ∙ sym (same-measures (plain c) c.args.positions.now c.args.width))

main-limits : (c : In-Ok) → c.in-Ok.w.main ≡ limits_of (whole c) 0
main-limits c =
    ap (λ (l : ChartLimits). l.main) (found c).1

dispersion-limits : (c : In-Ok) → c.in-Ok.w.dispersion ≡ limits_of (whole c) 1
dispersion-limits c =
    ap (λ (l : ChartLimits). l.dispersion) (found c).1

main-points : (c : In-Ok) → take c.lengths_in-points.result.main c.measure.new.main ≡ series_of (whole c) 0
main-points c =
    front-series (plain c) 0 _ c.args.main.now _ c.lengths_in-points.ensures.main c.in-Ok.ensures.main
    ∙ sym (same-series (plain c) c.args.positions.now c.args.width 0)

dispersion-points : (c : In-Ok) → take c.lengths_in-points.result.dispersion c.measure.new.dispersion ≡ series_of (whole c) 1
dispersion-points c =
    front-series (plain c) 1 _ c.args.dispersion.now _ c.lengths_in-points.ensures.dispersion c.in-Ok.ensures.dispersion
    ∙ sym (same-series (plain c) c.args.positions.now c.args.width 1)

pub mark-marks-requires : goal.mark-marks-requires
mark-marks-requires c =
    let here = (goal.at.mark-marks-requires c).In-Ok in
    let first = (goal.at.mark-marks-requires c).Start in
    let tests = fine first in
    marking-done (whole here) 0 (main-limits here) (main-points here) refl (moving-main c.args.c)
    _ tests.right tests.stopped tests.moded tests.enough (sound-parts (whole here) (found here).0).0 (room first).main-marks-room

pub mark-others-requires : goal.mark-others-requires
mark-others-requires c =
    let here = (goal.at.mark-others-requires c).In-Ok in
    let first = (goal.at.mark-others-requires c).Start in
    let tests = fine first in
    marking-done (whole here) 1 (dispersion-limits here) (dispersion-points here) refl (moving-is c.args.c)
    _ tests.right tests.stopped tests.moded tests.enough (sound-parts (whole here) (found here).0).1 (room first).dispersion-marks-room

pub returns-in-Ok : goal.returns-in-Ok
returns-in-Ok c =
    let here = (goal.at.returns-in-Ok c).In-Ok in
    let a = whole here in
    let main = marks-are a 0 (main-limits here) (main-points here) refl (moving-main c.args.c) in
    let dispersion = marks-are a 1 (dispersion-limits here) (dispersion-points here) refl (moving-is c.args.c) in record {
      answer = ap₂ (λ (n k : ℕ). answer_done c.in-Ok.w.main c.in-Ok.w.dispersion (n + k)) c.mark-marks.ensures.number c.mark-others.ensures.number
          ∙ done-by a (main-limits here) (dispersion-limits here) main dispersion
          ∙ answer-done a (short (goal.at.returns-in-Ok c).Start) (number-0 _ _ _ _ c.requires (found here).0);
      main = slice-done _ _ _ c.args.main.now c.in-Ok.ensures.main refl;
      dispersion = slice-done _ _ _ c.args.dispersion.now c.in-Ok.ensures.dispersion refl;
      main_marks = slice-done _ _ _ c.args.main_marks.now c.mark-marks.ensures.marks main;
      dispersion_marks = slice-done _ _ _ c.args.dispersion_marks.now c.mark-others.ensures.marks dispersion;
    }
