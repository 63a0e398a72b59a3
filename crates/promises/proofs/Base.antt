-- Demand 2 compares with 01: what is asked with nothing that 02 adds is answered as 01 says. With no stops (R-1) and in width mode 0 (R-5) it
-- is so for marking, checking, writing, evidence, evaluating and the sigma figures; a new chart is 01's once its set is changed to shewhart
-- (R-6). 01's own words that a request has moved stand here once; a later request adds to this file what it leaves as it was. Assumes nothing.
use mathlib.Core.Path.{◌≡◌, refl, sym, ap, ap₂, ◌∙◌, fun_ext}
use mathlib.Core.Bool.{Bool, true, false, not, ◌&&◌, cond}
use mathlib.Core.List.{List, [], ◌∷◌, ◌++◌}
use Prim.Native.Nat.{ℕ, zero, suc, ◌+◌}
use lib.Dec.{eqb, ltb}
use lib.Ieee.{Float, nan, fin, add, sub, mul, div, binary64}
use lib.IntN.{pos}
use lib.ListN.{length, take, get_or}
use contract.Lifetimes.{Lfts}
use denote.Triple.Clauses.{AtExit}
use borrow.Fn.Kinds.{Dens, ended_of}
use borrow.Author.Tests.{ne_eqb}
use Rattle.std.specs.Prelude.{Result, Ok, Err}
use Rattle.laws.specs.Refusals.{first_of, each}
use Rattle.laws.specs.Lists.{tabulate}
use Rattle.laws.specs.Front.{at_front}
use Rattle.floats.specs.Finite.{all_finite}
use Rattle.stops.specs.Stops.{cut_at, main_points}
use Rattle.stops.specs.Cuts.{unbroken}
use Rattle.stops.proofs.Cuts.{no-stops}
use Rattle.stops.proofs.Rising.{none-wrong}
use Rattle.sets.specs.declared.RuleSet.{RuleSet}
use Rattle.sets.specs.Sets.{tests, test_of, has, set_of, too_large}
use Rattle.sets.proofs.RuleSet.shewhart.Reads as shewhart
use Rattle.sets.proofs.RuleSet.shewhart.Kinds as shewhart-kinds
use Rattle.rules.specs.declared.Limits.{Limits}
use Rattle.rules.specs.declared.Lines.{Lines}
use Rattle.rules.specs.Lines.{width_wrong, one_sigma, two_sigma, lines_of}
use Rattle.rules.specs.Tests.{window}
use Rattle.rules.specs.Finite.{finite_limits}
use Rattle.rules.specs.Terms.{under}
use Rattle.rules.specs.Marking.{newest_first, stands, marks_at, marks_of, most, ahead, answer_of, marks_after}
use Rattle.evidence.specs.Evidence.{shown_at}
use Rattle.sheets.specs.Sheet.{sheet_of}
use Rattle.sheets.specs.Said.{said}
use Rattle.sheets.specs.Answers.{plain, judged, check_of, series_sheet, write_of, room_after}
use Rattle.charts.specs.declared.Chart.{Chart}
use Rattle.charts.specs.declared.Refusal.{Refusal}
use Rattle.charts.specs.Records.{number, changed, kind_wrong, size_wrong, own_wrong, record_wrong, no_chart, new_of, with_set_of}
use Rattle.charts.proofs.Answers.{number-some}
use Rattle.charts.proofs.Chart.new.Reads as new
use Rattle.charts.proofs.Chart.new.Kinds as new-kinds
use Rattle.charts.proofs.Chart.with_set.Reads as with-set
use Rattle.charts.proofs.Chart.with_set.Kinds as with-set-kinds
use Rattle.evaluating.specs.Asked.{Asked, stored}
use Rattle.evaluating.specs.Series.{series_of, moving_in}
use Rattle.evaluating.specs.Limits.{limits_of}
use Rattle.evaluating.specs.Evaluating.{answer_done, answer_refused, positions_wrong, too_few, sound, refusals, series_marks, number_of, answer_for, evaluate_of}
use Rattle.evaluating.specs.Sigma.{sigma_number}
use Rattle.evaluating.proofs.Outcomes.{none-stopped}

-- ---- 01's words

-- "Positions next to each other in the series count as next to each other in time.": the first n values, newest first
pub adjacent : List Float → ℕ → List Float
adjacent values zero = []
adjacent values (suc i) = get_or values i nan ∷ adjacent values i

-- "s = (ucl - cl) / 3.0 and t = 2.0 * s, in f64, each operation rounded; the same widths serve below the centre."
pub lines01 : Limits → Lines
lines01 l =
    let s = div binary64 (sub binary64 l.ucl l.cl) (fin false 3 (pos 0)) in
    let t = mul binary64 (fin false 1 (pos 1)) s in
    record {
      ucl = l.ucl;
      cl = l.cl;
      lcl = l.lcl;
      above1 = add binary64 l.cl s;
      below1 = sub binary64 l.cl s;
      above2 = add binary64 l.cl t;
      below2 = sub binary64 l.cl t;
    }

-- "A test marks every position whose window ends there and fits.": where the set has it, and it stands
pub marks01 : Limits → ℕ → List Float → List ℕ
marks01 l set values = tabulate (λ i. set_of (λ t. has set t && stands (lines01 l) (adjacent values (suc i)) t)) (length values)

-- "Marking and sheet writing: 5, 4, 3 for limits, 3 for values, 6. Checking: 5, 4, 3, 3, 9, 10, 11."
pub ahead01 : Limits → ℕ → List Float → List (Bool × ℕ)
ahead01 l set values =
    (ltb most (length values), 5)
    ∷ (too_large set, 4)
    ∷ (not (finite_limits l), 3)
    ∷ (not (all_finite values), 3)
    ∷ []

-- "Evaluate: 14, 8, 6, 3 for stored values, 7."; "Sigma figures: 14, 8, 3, 7, as evaluating would."
pub refusals01 : Asked → Bool → List (Bool × ℕ)
refusals01 a short =
    (record_wrong a.chart (length a.values), 14)
    ∷ (too_few a.chart, 8)
    ∷ (short, 6)
    ∷ (not (all_finite (stored a)), 3)
    ∷ (not (sound a), 7)
    ∷ []

-- "New chart: 14 for the kind, 1."; "A new chart has shewhart."
pub new01 : ℕ → ℕ → ℕ × Chart
new01 kind size =
    first_of
    ((kind_wrong kind, (14, no_chart)) ∷ (size_wrong kind size, (1, no_chart)) ∷ [])
    (0, record { kind = kind; size = size; count = 0; set = record { mask = 1 }; stops = 0 })

-- ---- lines

pub lines-are-01 : (l : Limits) → lines_of 0 l ≡ lines01 l
unfolding lines_of one_sigma two_sigma lines01
lines-are-01 l = refl

-- ---- marks

newest-adjacent : (values : List Float) (n : ℕ) → newest_first unbroken values n ≡ adjacent values n
unfolding newest_first adjacent
newest-adjacent values zero = refl
newest-adjacent values (suc i) = ap (λ (w : List Float). get_or values i nan ∷ w) (newest-adjacent values i)

module _ (l : Limits) (moving : Bool) (values : List Float) where
  -- no stops, no cuts
  next-to : (n : ℕ) → newest_first (cut_at [] moving) values n ≡ adjacent values n
  next-to n = ap (λ (cut : ℕ → Bool). newest_first cut values n) (no-stops moving) ∙ newest-adjacent values n

  module _ (set : ℕ) where
    pub marks-are-01 : marks_of (under l 0 [] moving) set values ≡ marks01 l set values
    unfolding marks_of marks_at marks01
    marks-are-01 =
        ap (λ (f : ℕ → ℕ). tabulate f (length values))
        (fun_ext (λ i. ap₂ (λ (m : Lines) (w : List Float). set_of (λ t. has set t && stands m w t)) (lines-are-01 l) (next-to (suc i))))

    -- ---- marking

    pub answer-is-01 : (room : ℕ) → answer_of (under l 0 [] moving) set values room ≡ first_of (ahead01 l set values ++ ((ltb room (length values), 6) ∷ [])) 0
    unfolding answer_of ahead ahead01 first_of
    answer-is-01 room = simp (none-wrong (main_points moving (length values)))

    pub slice-is-01 : (old : List ℕ)
        → marks_after (under l 0 [] moving) set values old
        ≡ cond (eqb (first_of (ahead01 l set values ++ ((ltb (length old) (length values), 6) ∷ [])) 0) 0) (at_front (marks01 l set values) old) old
    unfolding marks_after
    slice-is-01 old = ap₂ (λ (n : ℕ) (ms : List ℕ). cond (eqb n 0) (at_front ms old) old) (answer-is-01 (length old)) marks-are-01

    -- ---- checking and writing

    pub verdict-is-01 : (s : List ℕ)
        → check_of (under l 0 [] moving) set values s ≡ first_of (each plain (ahead01 l set values)) (judged set (marks01 l set values) (said s))
    unfolding check_of ahead ahead01 first_of each
    verdict-is-01 s = simp (none-wrong (main_points moving (length values)), marks-are-01)

    pub sheet-is-01 : series_sheet (under l 0 [] moving) set values ≡ sheet_of set (marks01 l set values)
    unfolding series_sheet
    sheet-is-01 = ap (sheet_of set) marks-are-01

    pub written-is-01 : (room : ℕ)
        → write_of (under l 0 [] moving) set values room
        ≡ first_of (each (λ n. (n, 0)) (ahead01 l set values) ++ ((ltb room (length (sheet_of set (marks01 l set values))), (6, 0)) ∷ []))
        (0, length (sheet_of set (marks01 l set values)))
    unfolding write_of ahead ahead01 first_of each
    written-is-01 room = simp (none-wrong (main_points moving (length values)), sheet-is-01)

    pub room-is-01 : (old : List ℕ)
        → room_after (under l 0 [] moving) set values old
        ≡ cond (eqb (write_of (under l 0 [] moving) set values (length old)).0 0) (at_front (sheet_of set (marks01 l set values)) old) old
    unfolding room_after
    room-is-01 old = ap (λ (s : List ℕ). cond (eqb (write_of (under l 0 [] moving) set values (length old)).0 0) (at_front s old) old) sheet-is-01

  -- ---- evidence: "If the number, position or test is out of range, the window doesn't fit, its values or the limits aren't finite, or the
  -- pattern isn't shown" it is empty

  pub shown-is-01 : (at bit : ℕ)
      → shown_at values (under l 0 [] moving) at bit
      ≡ (ltb at (length values)
      && (ltb bit (length tests)
      && (finite_limits l
      && (all_finite (take (window (test_of bit)) (adjacent values (suc at))) && stands (lines01 l) (adjacent values (suc at)) (test_of bit)))))
  unfolding shown_at
  shown-is-01 at bit = simp (none-wrong (main_points moving (length values)), next-to (suc at), lines-are-01 l)

-- ---- evaluating a chart that counts no stops, whatever positions are lent with it, in width mode 0

module _ (a : Asked) (none : a.chart.stops ≡ 0) (default : a.width ≡ 0) where
  pub series-marks-are-01 : (s : ℕ) → series_marks a s ≡ marks01 (limits_of a s) a.chart.set.mask (series_of a s)
  unfolding series_marks
  series-marks-are-01 s =
      ap₂ (λ (w n : ℕ). marks_of (under (limits_of a s) w (take n a.positions) (moving_in a.chart s)) a.chart.set.mask (series_of a s)) default none
      ∙ marks-are-01 (limits_of a s) (moving_in a.chart s) (series_of a s) a.chart.set.mask

  number-is-01 : (short : Bool) → first_of (refusals a (positions_wrong a.chart a.positions) (width_wrong a.width) short) 0 ≡ first_of (refusals01 a short) 0
  unfolding refusals01 first_of
  number-is-01 short = simp (none-stopped a.chart a.positions none, default)

  pub evaluation-is-01 : (short : Bool)
      → evaluate_of a short
      ≡ cond (eqb (first_of (refusals01 a short) 0) 0)
      (answer_done (limits_of a 0) (limits_of a 1)
      (number_of (marks01 (limits_of a 0) a.chart.set.mask (series_of a 0)) + number_of (marks01 (limits_of a 1) a.chart.set.mask (series_of a 1))))
      (answer_refused (first_of (refusals01 a short) 0))
  unfolding evaluate_of answer_for
  evaluation-is-01 short =
      ap (λ (n : ℕ). answer_for n a) (number-is-01 short)
      ∙ ap₂ (λ (ms os : List ℕ). cond (eqb (first_of (refusals01 a short) 0) 0)
      (answer_done (limits_of a 0) (limits_of a 1) (number_of ms + number_of os)) (answer_refused (first_of (refusals01 a short) 0)))
      (series-marks-are-01 0) (series-marks-are-01 1)

-- ---- the sigma figures of any chart, whatever it counts

pub figure-is-01 : (a : Asked) → sigma_number a ≡ first_of (refusals01 a false) 0
unfolding sigma_number refusals01 first_of
figure-is-01 a = refl

-- ---- a new chart, its set changed to shewhart

-- What making a chart answers, its set then changed to the one of this mask; where none is made, that answer.
pub then_set : ℕ → ℕ × Chart → ℕ × Chart
then_set mask made = cond (eqb made.0 0) (with_set_of made.1 (record { mask = mask })) made

pub new-is-01 : (kind size : ℕ) → then_set 1 (new_of kind size) ≡ new01 kind size
unfolding then_set new_of with_set_of own_wrong new01 first_of
new-is-01 kind size = by (kind_wrong kind) (size_wrong kind size) refl refl
  where
    by : (k z : Bool) → kind_wrong kind ≡ k → size_wrong kind size ≡ z → then_set 1 (new_of kind size) ≡ new01 kind size
    by true z e f = simp e
    by false true e f = simp (e, f)
    by false false e f = simp (e, f)

-- The same of the calls: `Post` is what each promises of its result, told its arguments.
module _ (κs : Lfts 0) (a : Dens κs new-kinds.ps) (made : Result Chart Refusal) (s : AtExit (ended_of 0 new-kinds.ps new-kinds.r) κs)
    (new-promised : new.Post κs a made s) where
  -- what `new` refuses, 01 refuses by the same number
  pub new-refused-is-01 : (why : Refusal) → made ≡ Err why → (number why, no_chart) ≡ new01 a.0 a.1.0
  unfolding then_set
  new-refused-is-01 why e =
      let answered : (number why, no_chart) ≡ new_of a.0 a.1.0 = ap (changed no_chart) (sym e) ∙ new-promised in
      sym (simp (ne_eqb (number why) 0 (number-some why))) ∙ ap (then_set 1) answered ∙ new-is-01 a.0 a.1.0

  -- to the chart that it gives, with the set that `shewhart` gives, `with_set` answers 01's new chart
  pub new-changed-is-01 : (c : Chart) → made ≡ Ok c
      → (set : RuleSet) (t : AtExit (ended_of 0 shewhart-kinds.ps shewhart-kinds.r) κs) → shewhart.Post κs tt set t
      → (answer : Result Chart Refusal) (u : AtExit (ended_of 0 with-set-kinds.ps with-set-kinds.r) κs) → with-set.Post κs (c, (set, tt)) answer u
      → changed c answer ≡ new01 a.0 a.1.0
  unfolding then_set
  new-changed-is-01 c given set t shewhart-promised answer u with-set-promised =
      let answered : (0, c) ≡ new_of a.0 a.1.0 = ap (changed no_chart) (sym given) ∙ new-promised in
      with-set-promised
      ∙ ap (λ (m : ℕ). with_set_of c (record { mask = m })) shewhart-promised
      ∙ ap (then_set 1) answered
      ∙ new-is-01 a.0 a.1.0
