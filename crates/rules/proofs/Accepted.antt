-- What is refused and what is not: values, set and limits first, and then, for marking, the room; and what marking leaves in it.
-- Assumes nothing.
use mathlib.Core.Path.{◌≡◌, refl, sym, ap, ◌∙◌}
use mathlib.Core.Bool.{Bool, true, false, not, ◌&&◌, cond}
use mathlib.Core.List.{List, [], ◌∷◌}
use Prim.Native.Nat.{ℕ, ◌≤◌, ◌<◌}
use native.Mathlib.Omega.{arith}
use borrow.Author.Tests.{lt-ltb, le-ltb, ltb-true, ltb-false, not-false, eq-eqb, ne_eqb, eqb-true, eqb-false}
use lib.Dec.{ltb, eqb}
use lib.Ieee.{Float}
use lib.ListN.{length, take, drop}
use lib.Seq.{take_at}
use Rattle.laws.specs.Bools.{every}
use Rattle.laws.specs.Refusals.{first_of}
use Rattle.laws.specs.Front.{at_front}
use Rattle.laws.proofs.Refusals.{Passed, numbers, first-append, first_else, were-passed}
use Rattle.floats.specs.Finite.{all_finite}
use Rattle.std.specs.Prelude.{Result}
use Rattle.rules.specs.declared.Refusal.{Refusal}
use Rattle.rules.specs.Finite.{finite_limits}
use Rattle.rules.specs.Terms.{Terms}
use Rattle.rules.specs.Lines.{width_wrong}
use Rattle.stops.specs.Stops.{stops_wrong, main_points}
use Rattle.rules.specs.Marking.{most, numbered, ahead, refusal, answer_of, marks_of, marks_after}
use Rattle.rules.proofs.Meaning.{length-marks}

pub record Accepted (terms : Terms) (set : ℕ) (values : List Float) : Type 0 where
  pub few : length values ≤ most
  pub stopped : stops_wrong (main_points terms.moving (length values)) terms.stops ≡ false
  pub small : set ≤ 511
  pub mode : terms.width ≤ 1
  pub sound : finite_limits terms.limits ≡ true
  pub finite : all_finite values ≡ true

module _ (terms : Terms) (set : ℕ) (values : List Float) where
  -- every one of these refusals has a number
  pub ahead-numbers : numbers (ahead terms set values) ≡ true
  unfolding ahead every
  ahead-numbers = refl

  pub was-accepted : refusal terms set values ≡ 0 → Accepted terms set values
  unfolding ahead every Passed
  was-accepted e =
      let all = were-passed (ahead terms set values) ahead-numbers e in
      record {
        few = ltb-false most (length values) all.0;
        stopped = all.1.0;
        small = ltb-false 511 set all.1.1.0;
        mode = ltb-false 1 terms.width all.1.1.1.0;
        sound = not-false (finite_limits terms.limits) all.1.1.1.1.0;
        finite = not-false (all_finite values) all.1.1.1.1.1.0;
      }

  -- what is so is not refused
  pub accepts : Accepted terms set values → refusal terms set values ≡ 0
  unfolding ahead first_of
  accepts a =
      simp (le-ltb most (length values) a.few, a.stopped, le-ltb 511 set a.small, le-ltb 1 terms.width a.mode, a.sound, a.finite)

  -- Where the values are few enough, the stops are some and the set is one, it is the mode, the limits and the values that decide.
  pub only-finite : length values ≤ most → stops_wrong (main_points terms.moving (length values)) terms.stops ≡ false → set ≤ 511
      → refusal terms set values ≡ cond (width_wrong terms.width) 21 (cond (finite_limits terms.limits && all_finite values) 0 3)
  unfolding ahead first_of
  only-finite few stopped small =
      simp (le-ltb most (length values) few, stopped, le-ltb 511 set small)
      (ap (cond (width_wrong terms.width) 21) (by (finite_limits terms.limits) (all_finite values)))
    where
      by : (a b : Bool) → ◌≡◌ {A = ℕ} (cond (not a) 3 (cond (not b) 3 0)) (cond (a && b) 0 3)
      by true true = refl
      by true false = refl
      by false b = refl

  -- marking: they come first, then the room
  pub answer-is : (room : ℕ)
      → answer_of terms set values room
      ≡ cond (eqb (refusal terms set values) 0) (cond (ltb room (length values)) 6 0) (refusal terms set values)
  unfolding answer_of first_of
  answer-is room =
      first-append (ahead terms set values) ((ltb room (length values), 6) ∷ []) 0
      ∙ first_else (ahead terms set values) (cond (ltb room (length values)) 6 0) ahead-numbers

  pub answer-refused : (room : ℕ) → (refusal terms set values ≡ 0 → ⊥) → answer_of terms set values room ≡ refusal terms set values
  answer-refused room z = answer-is room ∙ simp (ne_eqb (refusal terms set values) 0 z)

  module _ (room : ℕ) (none : refusal terms set values ≡ 0) where
    pub answer-short : room < length values → answer_of terms set values room ≡ 6
    answer-short h = answer-is room ∙ simp (eq-eqb (refusal terms set values) 0 none, lt-ltb room (length values) h)

    pub answer-done : length values ≤ room → answer_of terms set values room ≡ 0
    answer-done h = answer-is room ∙ simp (eq-eqb (refusal terms set values) 0 none, le-ltb room (length values) h)

  -- what is done was not refused, and had room
  pub was-done : (room : ℕ) → answer_of terms set values room ≡ 0 → (refusal terms set values ≡ 0) × (length values ≤ room)
  was-done room e = by (eqb (refusal terms set values) 0) (ltb room (length values)) refl refl
    where
      by : (b c : Bool) → eqb (refusal terms set values) 0 ≡ b → ltb room (length values) ≡ c
          → (refusal terms set values ≡ 0) × (length values ≤ room)
      by true true p q =
          absurd (omega (arith, answer-short room (eqb-true (refusal terms set values) 0 p) (ltb-true room (length values) q), e))
      by true false p q = (eqb-true (refusal terms set values) 0 p, ltb-false room (length values) q)
      by false c p q = let some = eqb-false (refusal terms set values) 0 p in absurd (some (sym (answer-refused room some) ∙ e))

  -- a room that holds the marks is not refused, nor is any where the values are too many
  pub room-enough : (room : ℕ) → (length values ≤ most → length values ≤ room) → answer_of terms set values room ≡ refusal terms set values
  room-enough room holds = by (eqb (refusal terms set values) 0) refl
    where
      by : (b : Bool) → eqb (refusal terms set values) 0 ≡ b → answer_of terms set values room ≡ refusal terms set values
      by true e = let none = eqb-true _ 0 e in answer-done room none (holds (was-accepted none).few) ∙ sym none
      by false e = answer-refused room (eqb-false _ 0 e)

  -- what marking answered there
  pub refusal_is : {A : Type 0} (room : ℕ) → (length values ≤ most → length values ≤ room) → (r m : Result A Refusal)
      → numbered r ≡ answer_of terms set values room → r ≡ m → refusal terms set values ≡ numbered m
  refusal_is room holds r m told is = sym (room-enough room holds) ∙ sym told ∙ ap numbered is

  -- ---- the slice afterwards

  pub marks-kept : (old : List ℕ) → (answer_of terms set values (length old) ≡ 0 → ⊥) → old ≡ marks_after terms set values old
  unfolding marks_after
  marks-kept old z = sym (simp (ne_eqb (answer_of terms set values (length old)) 0 z))

  pub marks-written : (old : List ℕ) → answer_of terms set values (length old) ≡ 0 → at_front (marks_of terms set values) old ≡ marks_after terms set values old
  unfolding marks_after
  marks-written old e = sym (simp (eq-eqb (answer_of terms set values (length old)) 0 e))

  -- its front holds the marks
  pub marks-front : (old : List ℕ) → answer_of terms set values (length old) ≡ 0
      → take (length values) (marks_after terms set values old) ≡ marks_of terms set values
  marks-front old e =
      ap (take (length values)) (sym (marks-written old e))
      ∙ take_at (marks_of terms set values) (drop (length (marks_of terms set values)) old) (length values) (length-marks terms set values)

-- What marking leaves in a room that holds the marks of every value, unless these are too many, where it refused nothing.
pub record Made (terms : Terms) (set : ℕ) (values : List Float) (old now : List ℕ) : Type 0 where
  pub none : refusal terms set values ≡ 0
  pub room : length values ≤ length old
  pub front : take (length values) now ≡ marks_of terms set values

pub made : {A : Type 0} (terms : Terms) (set : ℕ) (values : List Float) (old now : List ℕ) (r : Result A Refusal)
    → (length values ≤ most → length values ≤ length old) → numbered r ≡ answer_of terms set values (length old)
    → numbered r ≡ 0 → now ≡ marks_after terms set values old → Made terms set values old now
made terms set values old now r holds told zero left =
    let none = sym (room-enough terms set values (length old) holds) ∙ sym told ∙ zero in
    let room = holds (was-accepted terms set values none).few in
    record {
      none = none;
      room = room;
      front = ap (take (length values)) left ∙ marks-front terms set values old (answer-done terms set values (length old) none room);
    }
