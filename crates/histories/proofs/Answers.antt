-- What taking a value answers, refusal by refusal: marking's order, without what cannot apply to a single value. Two answers with the same
-- numbers are one. Assumes nothing.
use mathlib.Core.Path.{◌≡◌, ap, ap₂, ◌∙◌}
use mathlib.Core.Bool.{true, false, not, cond, and-true}
use mathlib.Core.List.{[], ◌∷◌}
use Prim.Native.Nat.{ℕ, ◌≤◌, ◌<◌}
use borrow.Author.Tests.{lt-ltb, le-ltb}
use lib.Dec.{eqb}
use lib.Ieee.{Float}
use Rattle.std.specs.Prelude.{Result}
use Rattle.numbers.proofs.Numbers.{answered-one}
use Rattle.laws.specs.Bools.{every}
use Rattle.laws.specs.Refusals.{first_of, each}
use Rattle.laws.proofs.Refusals.{each_first}
use Rattle.floats.specs.Finite.{finite, all_finite}
use Rattle.sets.specs.Sets.{too_large}
use Rattle.stops.specs.Stops.{rising, stops_wrong}
use Rattle.rules.specs.declared.Limits.{Limits}
use Rattle.rules.specs.declared.Refusal.{Refusal}
use Rattle.rules.specs.Finite.{finite_limits}
use Rattle.rules.specs.Lines.{width_wrong, lines_of}
use Rattle.rules.specs.Terms.{alone}
use Rattle.rules.specs.Marking.{ahead, refusal}
use Rattle.rules.proofs.Accepted.{ahead-numbers}
use Rattle.rules.proofs.Answers.{tells}
use Rattle.histories.specs.declared.Lane.{Lane}
use Rattle.histories.specs.Lanes.{after}
use Rattle.histories.specs.Taking.{answered, Outcome, taken, unchanged, marked, take_value}

-- ---- refusals

module _ (limits : Limits) (width set : ℕ) (lane : Lane) (v : Float) where
  -- 4, 21, 3 for limits, 3 for the value
  pub in_order : take_value limits width set lane v
      ≡ first_of
      ((too_large set, unchanged lane 4) ∷ (width_wrong width, unchanged lane 21)
      ∷ (not (finite_limits limits), unchanged lane 3) ∷ (not (finite v), unchanged lane 3) ∷ [])
      (marked set (after (lines_of width limits) lane v))
  unfolding take_value ahead each first_of stops_wrong rising all_finite every
  in_order = simp (and-true)

  pub set-refused : 511 < set → take_value limits width set lane v ≡ unchanged lane 4
  unfolding first_of
  set-refused large = in_order ∙ simp (lt-ltb 511 set large)

  module _ (small : set ≤ 511) where
    pub mode-refused : 1 < width → take_value limits width set lane v ≡ unchanged lane 21
    unfolding first_of
    mode-refused large = in_order ∙ simp (le-ltb 511 set small, lt-ltb 1 width large)

    module _ (mode : width ≤ 1) where
      pub limits-refused : finite_limits limits ≡ false → take_value limits width set lane v ≡ unchanged lane 3
      unfolding first_of
      limits-refused unsound = in_order ∙ simp (le-ltb 511 set small, le-ltb 1 width mode, unsound)

      module _ (sound : finite_limits limits ≡ true) where
        pub value-refused : finite v ≡ false → take_value limits width set lane v ≡ unchanged lane 3
        unfolding first_of
        value-refused unsound = in_order ∙ simp (le-ltb 511 set small, le-ltb 1 width mode, sound, unsound)

        pub value_taken : finite v ≡ true → take_value limits width set lane v ≡ marked set (after (lines_of width limits) lane v)
        unfolding first_of
        value_taken is = in_order ∙ simp (le-ltb 511 set small, le-ltb 1 width mode, sound, is)

  -- a value that is refused changes nothing
  pub take-is : take_value limits width set lane v
      ≡ cond (eqb (refusal (alone limits width) set (v ∷ [])) 0) (marked set (after (lines_of width limits) lane v)) (unchanged lane (refusal (alone limits width) set (v ∷ [])))
  unfolding take_value
  take-is =
      each_first (unchanged lane) (ahead (alone limits width) set (v ∷ [])) (marked set (after (lines_of width limits) lane v))
      (ahead-numbers (alone limits width) set (v ∷ []))

-- ---- an answer is known by its numbers

answered-same : (x y : Result ℕ Refusal) → answered x ≡ answered y → x ≡ y
answered-same = answered-one tells _ _ (λ m n e. e)

pub taken-one : (x y : Result ℕ Refusal) (l m : Lane) → taken x l ≡ taken y m → ◌≡◌ {A = Result ℕ Refusal × Lane} (x, l) (y, m)
taken-one x y l m e =
    ap₂ (λ (a : Result ℕ Refusal) (k : Lane). (a, k)) (answered-same x y (ap (λ (o : Outcome). (o.0, o.1)) e)) (ap (λ (o : Outcome). o.2) e)
