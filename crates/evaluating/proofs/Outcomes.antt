-- Evaluating: what the tests ahead of the arithmetic tell once they are passed, and each case of the answer. Assumes nothing.
use Rattle.std.proofs.Common.{◌≡◌, ℕ, ◌+◌, ◌≤◌, Bool, true, false, cond, not, ◌&&◌, ◌||◌, eqb, ltb, List, length, take, drop, sym, refl, ap, ◌∙◌, ap₂, arith, ltb-false, le-ltb, eq-eqb, ne_eqb}
use native.Mathlib.Decide.{ℕ_discrete}
use borrow.Author.Tests.{not-true}
use Rattle.std.specs.Prelude.{Result, Err}
use lib.Ieee.{Float}
use Rattle.laws.specs.Bools.{every}
use Rattle.laws.specs.Refusals.{first_of}
use Rattle.laws.specs.Front.{lent_after}
use Rattle.laws.proofs.Bools.{both, or_left, or_right}
use Rattle.laws.proofs.LentAfter.{slice_kept}
use Rattle.laws.proofs.Refusals.{Passed, passed, refused, none-applies, first-append, first_else, first-such, were-passed}
use Rattle.floats.specs.Finite.{all_finite}
use Rattle.rules.specs.declared.Limits.{Limits}
use Rattle.rules.specs.Finite.{finite_limits}
use Rattle.rules.specs.Marking.{marks_of, answer_of}
use Rattle.rules.specs.Lines.{width_wrong}
use Rattle.rules.specs.Terms.{Terms, under}
use Rattle.stops.specs.Stops.{stops_wrong, main_points}
use Rattle.stops.proofs.Rising.{none-wrong}
use Rattle.rules.proofs.Accepted as marking
use Rattle.charts.specs.declared.Chart.{Chart}
use Rattle.charts.specs.declared.Refusal.{Refusal}
use Rattle.charts.specs.Records.{number, record_wrong}
use Rattle.charts.proofs.Answers.{number-some}
use Rattle.charts.proofs.Cases.{kind_1, subgroups}
use Rattle.charts.proofs.Held.{held}
use Rattle.evaluating.specs.Asked.{Asked, stops_among}
use Rattle.evaluating.specs.Series.{points_in, series_of, moving_in}
use Rattle.evaluating.specs.Limits.{limits_of}
use Rattle.evaluating.specs.Evaluating.{answer_done, answer_refused, positions_wrong, too_few, no_room, sound, refusals}
use Rattle.evaluating.specs.Evaluating.{series_marks, number_of, done_of, answer_for, evaluate_of}
use Rattle.evaluating.specs.Steps.{ahead, tested}
use Rattle.evaluating.proofs.SeriesPoints.{points-most, main-points, length-series}

-- ---- what passed tests tell

pub some-held : (c : Chart) → too_few c ≡ false → 1 ≤ c.count
unfolding too_few
some-held c h = by (ℕ_discrete c.kind 1)
  where
    by : Dec (c.kind ≡ 1) → 1 ≤ c.count
    by (yes e) = omega (arith, ltb-false c.count 2 (sym (kind_1 c.kind (ltb c.count 2) (ltb c.count 1) (ltb c.count 1) e) ∙ h))
    by (no ne) = ltb-false c.count 1 (sym (subgroups c.kind (ltb c.count 2) (ltb c.count 1) ne) ∙ h)

-- the slices hold their series
pub record Rooms (c : Chart) (main dispersion main_marks dispersion_marks : ℕ) : Type 0 where
  pub main-room : points_in c 0 ≤ main
  pub dispersion-room : points_in c 1 ≤ dispersion
  pub main-marks-room : points_in c 0 ≤ main_marks
  pub dispersion-marks-room : points_in c 1 ≤ dispersion_marks

pub rooms : (c : Chart) (a b x y : ℕ) → no_room c a b x y ≡ false → Rooms c a b x y
unfolding no_room
rooms c a b x y h =
    let p = ltb a (points_in c 0) in
    let q = ltb x (points_in c 0) in
    let r = ltb b (points_in c 1) in
    let s = ltb y (points_in c 1) in
    let three = or_left (p || q || r) s h in
    let two = or_left (p || q) r three in
    record {
      main-room = ltb-false a (points_in c 0) (or_left p q two);
      main-marks-room = ltb-false x (points_in c 0) (or_right p q two);
      dispersion-room = ltb-false b (points_in c 1) (or_right (p || q) r three);
      dispersion-marks-room = ltb-false y (points_in c 1) (or_right (p || q || r) s h);
    }

-- there are as many positions as the record counts stops
pub counted : (c : Chart) (positions : List ℕ) → positions_wrong c positions ≡ false → c.stops ≤ length positions
unfolding positions_wrong
counted c positions h = ltb-false (length positions) c.stops (or_left (ltb (length positions) c.stops) _ h)

-- where the record counts no stops, nothing is wrong with any positions
pub none-stopped : (c : Chart) (positions : List ℕ) → c.stops ≡ 0 → positions_wrong c positions ≡ false
unfolding positions_wrong
none-stopped c positions e =
    ap₂ ◌||◌ (le-ltb (length positions) c.stops (omega arith))
    (ap (λ (n : ℕ). stops_wrong (points_in c 0) (take n positions)) e ∙ none-wrong (points_in c 0))

module _ (a : Asked) (wrong bad_width short : Bool) where
  pub record Ahead : Type 0 where
    pub right : record_wrong a.chart (length a.values) ≡ false
    pub stopped : wrong ≡ false
    pub moded : bad_width ≡ false
    pub enough : too_few a.chart ≡ false
    pub room : short ≡ false

  pub were-ahead : first_of (ahead a wrong bad_width short) 0 ≡ 0 → Ahead
  unfolding Passed every
  were-ahead e =
      let all = were-passed (ahead a wrong bad_width short) refl e in
      record { right = all.0; stopped = all.1.0; moded = all.1.1.0; enough = all.1.1.1.0; room = all.1.1.1.1.0 }

  -- where they are passed, 7 decides
  whole : first_of (refusals a wrong bad_width short) 0
      ≡ cond (eqb (first_of (ahead a wrong bad_width short) 0) 0) (first_of (drop 6 (refusals a wrong bad_width short)) 0) (first_of (ahead a wrong bad_width short) 0)
  unfolding every
  whole = first-append (ahead a wrong bad_width short) (drop 6 (refusals a wrong bad_width short)) 0 ∙ first_else (ahead a wrong bad_width short) _ refl

  module _ (e : first_of (ahead a wrong bad_width short) 0 ≡ 0) where
    by-7 : first_of (refusals a wrong bad_width short) 0 ≡ first_of (drop 6 (refusals a wrong bad_width short)) 0
    by-7 = whole ∙ ap (λ (b : Bool). cond b (first_of (drop 6 (refusals a wrong bad_width short)) 0) (first_of (ahead a wrong bad_width short) 0)) (eq-eqb _ 0 e)

    pub number-7 : sound a ≡ false → first_of (refusals a wrong bad_width short) 0 ≡ 7
    number-7 h = by-7 ∙ refused _ _ _ _ (ap not h)

    pub number-0 : sound a ≡ true → first_of (refusals a wrong bad_width short) 0 ≡ 0
    number-0 h = by-7 ∙ passed _ _ _ _ (ap not h) ∙ none-applies 0

  -- ---- refused ahead of 7

  module _ {why : Refusal} {t : Result (Unit {0}) Refusal} (is : t ≡ Err why) (found : tested t ≡ first_of (ahead a wrong bad_width short) 0) where
    e : first_of (ahead a wrong bad_width short) 0 ≡ number why
    e = sym found ∙ ap tested is

    pub number-ahead : first_of (refusals a wrong bad_width short) 0 ≡ number why
    number-ahead =
        whole
        ∙ ap (λ (n : ℕ). cond (eqb n 0) (first_of (drop 6 (refusals a wrong bad_width short)) 0) n) e
        ∙ ap (λ (b : Bool). cond b (first_of (drop 6 (refusals a wrong bad_width short)) 0) (number why)) (ne_eqb (number why) 0 (number-some why))

    pub slice-refused : {A : Type 0} (nought : A) (written old : List A) → old ≡ lent_after (number why) nought written old
    unfolding every
    slice-refused nought written old =
        slice_kept nought written old (number why) (number-some why)
        (ap (λ (n : ℕ). eqb n 7) (sym e) ∙ not-true (eqb (first_of (ahead a wrong bad_width short) 0) 7) (first-such (λ n. not (eqb n 7)) (ahead a wrong bad_width short) refl refl))

-- ---- the answer, by its number

module _ (a : Asked) (short : Bool) where
  pub answer-refused : (n : ℕ) → first_of (refusals a (positions_wrong a.chart a.positions) (width_wrong a.width) short) 0 ≡ n → (n ≡ 0 → ⊥) → answer_refused n ≡ evaluate_of a short
  unfolding evaluate_of answer_for
  answer-refused n is some =
      sym
      (ap (λ (k : ℕ). answer_for k a) is
      ∙ ap (λ (b : Bool). cond b (done_of a) (answer_refused n)) (ne_eqb n 0 some))

  pub answer-done : first_of (refusals a (positions_wrong a.chart a.positions) (width_wrong a.width) short) 0 ≡ 0 → done_of a ≡ evaluate_of a short
  unfolding evaluate_of answer_for
  answer-done is = sym (ap (λ (k : ℕ). answer_for k a) is)

-- ---- sound: marking refuses neither series

pub record Sound (a : Asked) (s : ℕ) : Type 0 where
  pub points : all_finite (series_of a s) ≡ true
  pub limits : finite_limits (limits_of a s) ≡ true

pub sound-parts : (a : Asked) → sound a ≡ true → Sound a 0 × Sound a 1
unfolding sound
sound-parts a h =
    let p = all_finite (series_of a 0) in
    let q = all_finite (series_of a 1) in
    let r = finite_limits (limits_of a 0) in
    let s = finite_limits (limits_of a 1) in
    let all = both (p && q) (r && s) h in
    let points = both p q all.0 in
    let limits = both r s all.1 in
    (record { points = points.0; limits = limits.0 }, record { points = points.1; limits = limits.1 })

-- of a series: its limits, points and stops as the code has them
module _ (a : Asked) (s : ℕ) {l : Limits} (e : l ≡ limits_of a s) {points : List Float} (f : points ≡ series_of a s)
    {stops : List ℕ} (g : stops ≡ stops_among a.chart a.positions) {moving : Bool} (m : moving ≡ moving_in a.chart s) where
  abbrev theirs : Terms
  theirs = under (limits_of a s) a.width (stops_among a.chart a.positions) (moving_in a.chart s)

  same-terms : under l a.width stops moving ≡ theirs
  same-terms = cc

  pub marking-done : (room : ℕ) → record_wrong a.chart (length a.values) ≡ false → positions_wrong a.chart a.positions ≡ false
      → width_wrong a.width ≡ false → too_few a.chart ≡ false → Sound a s → points_in a.chart s ≤ room → answer_of (under l a.width stops moving) a.chart.set.mask points room ≡ 0
  unfolding positions_wrong
  marking-done room right stopped moded enough fine h =
      let own = (held a.chart (length a.values) right).figures in
      ap₂ (λ (t : Terms) (p : List _). answer_of t a.chart.set.mask p room) same-terms f
      ∙ marking.answer-done theirs a.chart.set.mask (series_of a s) room
      (marking.accepts theirs a.chart.set.mask (series_of a s) (record {
        few = omega (arith, length-series a s, points-most a.chart s, own.few);
        stopped =
            ap (λ (n : ℕ). stops_wrong n (stops_among a.chart a.positions))
            (ap (main_points (moving_in a.chart s)) (length-series a s) ∙ main-points a.chart s (some-held a.chart enough))
            ∙ or_right (ltb (length a.positions) a.chart.stops) _ stopped;
        small = own.set-small;
        mode = ltb-false 1 a.width moded;
        sound = fine.limits;
        finite = fine.points;
      }))
      (omega (arith, length-series a s, h))

  -- and its marks are those of the series
  pub marks-are : marks_of (under l a.width stops moving) a.chart.set.mask points ≡ series_marks a s
  unfolding series_marks
  marks-are = ap₂ (λ (t : Terms) (p : List _). marks_of t a.chart.set.mask p) same-terms f

pub done-by : (a : Asked) {main dispersion : Limits} {marks others : List ℕ} → main ≡ limits_of a 0 → dispersion ≡ limits_of a 1
    → marks ≡ series_marks a 0 → others ≡ series_marks a 1 → answer_done main dispersion (number_of marks + number_of others) ≡ done_of a
done-by a l m x y = rw (l, m, x, y) refl
