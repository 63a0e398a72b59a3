-- Values taken one after the other: after any calls under one and the same limits and width mode the marks are those of 01's patterns among
-- the values that were taken; a series given value by value, with a fresh start at each stop, is marked as marking does it. Assumes nothing.
use mathlib.Core.Path.{◌≡◌, refl, ap, ◌∙◌}
use mathlib.Core.Bool.{Bool, true, false, ◌&&◌, cond}
use mathlib.Core.List.{List, [], ◌∷◌}
use Prim.Native.Nat.{ℕ, zero, suc, ◌≤◌, ◌<◌}
use native.Mathlib.Omega.{arith}
use borrow.Author.Tests.{eq-eqb}
use lib.Dec.{eqb}
use lib.Ieee.{Float, nan}
use lib.ListN.{length, get_or}
use Rattle.laws.specs.Bools.{every}
use Rattle.laws.specs.Lists.{tabulate}
use Rattle.laws.proofs.Lists.{same-tabulate}
use Rattle.floats.specs.Finite.{all_finite}
use Rattle.floats.proofs.AllFinite.{finite-at}
use Rattle.stops.specs.Stops.{rising, stops_wrong}
use Rattle.sets.specs.Sets.{has, set_of}
use Rattle.rules.specs.declared.Limits.{Limits}
use Rattle.rules.specs.declared.Lines.{Lines}
use Rattle.rules.specs.Terms.{Terms, alone}
use Rattle.rules.specs.Lines.{lines_of}
use Rattle.rules.specs.Marking.{newest_first, stands, marks_at, cuts_of, lines_for, marks_of, refusal}
use Rattle.rules.proofs.Accepted.{was-accepted, accepts}
use Rattle.histories.specs.declared.Lane.{Lane}
use Rattle.histories.specs.Lanes.{after, fresh}
use Rattle.histories.specs.Taking.{Outcome, unchanged, marked, take_value}
use Rattle.histories.specs.Runs.{fed, called, accepted, lane_after, outcome_at}
use Rattle.histories.proofs.Answers.{take-is}
use Rattle.histories.proofs.Patterns.{marks-stand}

-- ---- calls under the same limits and mode

module _ (limits : Limits) (width : ℕ) where
  abbrev lines : Lines
  lines = lines_of width limits

  -- the marks of 01's patterns at the newest of some values, and the lane after them
  abbrev pub patterns : ℕ → List Float → Outcome
  patterns set past = (0, set_of (λ t. has set t && stands lines past t), fed lines past)

  -- A value that is not refused is marked by 01's patterns, among the values taken before it.
  pub takes : (set : ℕ) (v : Float) (past : List Float) → refusal (alone limits width) set (v ∷ []) ≡ 0
      → take_value limits width set (fed lines past) v ≡ patterns set (v ∷ past)
  unfolding fed
  takes set v past none =
      take-is limits width set (fed lines past) v
      ∙ simp (eq-eqb (refusal (alone limits width) set (v ∷ [])) 0 none)
      (ap (λ (m : ℕ). (0, m, after lines (fed lines past) v)) (marks-stand lines set v past))

  -- Refused values change nothing: the lane after any calls is the one after those values that were taken.
  pub called-fed : (calls : List (ℕ × Float)) → called limits width calls ≡ fed lines (accepted limits width calls)
  unfolding called accepted fed
  called-fed [] = refl
  called-fed (c ∷ calls) =
      ap (λ (o : Outcome). o.2) (take-is limits width c.0 (called limits width calls) c.1)
      ∙ by (eqb (refusal (alone limits width) c.0 (c.1 ∷ [])) 0) (called-fed calls)
    where
      by : (b : Bool) → called limits width calls ≡ fed lines (accepted limits width calls)
          → (cond b (marked c.0 (after lines (called limits width calls) c.1)) (unchanged (called limits width calls) (refusal (alone limits width) c.0 (c.1 ∷ [])))).2
          ≡ fed lines (cond b (c.1 ∷ accepted limits width calls) (accepted limits width calls))
      by true e = ap (λ (lane : Lane). after lines lane c.1) e
      by false e = e

  -- So after any calls, however many, a value that is not refused is marked by 01's patterns at its position among those taken.
  pub called-marks : (set : ℕ) (v : Float) (calls : List (ℕ × Float)) → refusal (alone limits width) set (v ∷ []) ≡ 0
      → take_value limits width set (called limits width calls) v ≡ patterns set (v ∷ accepted limits width calls)
  called-marks set v calls none =
      ap (λ (lane : Lane). take_value limits width set lane v) (called-fed calls) ∙ takes set v (accepted limits width calls) none

-- ---- a series

module _ (terms : Terms) (set : ℕ) (values : List Float) (none : refusal terms set values ≡ 0) where
  -- each value of a series that marking takes is taken
  one-taken : (i : ℕ) → i < length values → refusal (alone terms.limits terms.width) set (get_or values i nan ∷ []) ≡ 0
  unfolding stops_wrong rising all_finite every
  one-taken i h =
      let a = was-accepted terms set values none in
      accepts (alone terms.limits terms.width) set (get_or values i nan ∷ [])
      (record {
        few = omega arith;
        stopped = refl;
        small = a.small;
        mode = a.mode;
        sound = a.sound;
        finite = ap (λ (b : Bool). b && true) (finite-at values a.finite i h);
      })

  -- "a start-again is a fresh start"
  started : (b : Bool) (past : List Float) → cond b fresh (fed (lines_for terms) past) ≡ fed (lines_for terms) (cond b [] past)
  unfolding fed
  started true past = refl
  started false past = refl

  abbrev past : ℕ → List Float
  past n = newest_first (cuts_of terms) values n

  step : (i : ℕ) → i < length values → lane_after terms set values i ≡ fed (lines_for terms) (past i)
      → outcome_at terms set values i ≡ patterns terms.limits terms.width set (past (suc i))
  unfolding newest_first
  step i h e =
      ap (λ (lane : Lane). take_value terms.limits terms.width set lane (get_or values i nan)) (ap (cond (cuts_of terms i) fresh) e ∙ started (cuts_of terms i) (past i))
      ∙ takes terms.limits terms.width set (get_or values i nan) (cond (cuts_of terms i) [] (past i)) (one-taken i h)

  lane-is : (n : ℕ) → n ≤ length values → lane_after terms set values n ≡ fed (lines_for terms) (past n)
  unfolding lane_after fed newest_first
  lane-is zero h = refl
  lane-is (suc i) h = ap (λ (o : Outcome). o.2) (step i h (lane-is i (omega arith)))

  -- Value by value it is marked just as marking does it.
  pub series-marked : tabulate (λ i. (outcome_at terms set values i).1) (length values) ≡ marks_of terms set values
  unfolding marks_of marks_at
  series-marked =
      same-tabulate (λ i. (outcome_at terms set values i).1) (marks_at (cuts_of terms) (lines_for terms) set values) (length values)
      (λ i h. ap (λ (o : Outcome). o.1) (step i h (lane-is i (omega arith))))

  -- And none of its values is refused.
  pub series-taken : (i : ℕ) → i < length values → (outcome_at terms set values i).0 ≡ 0
  series-taken i h = ap (λ (o : Outcome). o.0) (step i h (lane-is i (omega arith)))
