-- 02's R-5: in width mode 0 all is as it was, stops included; limits as far from the centre line above as below have the same marks in both
-- modes; and the two modes worked on three values. Assumes nothing.
use mathlib.Core.Path.{◌≡◌, refl, ap, ◌∙◌}
use mathlib.Core.Bool.{Bool, false, not, ◌&&◌}
use mathlib.Core.List.{List, [], ◌∷◌}
use Prim.Native.Nat.{ℕ, suc}
use lib.Dec.{ltb}
use lib.Ieee.{Float, binary64, of_bits, add, sub, mul, div, lt, le}
use lib.ListN.{length, take}
use Rattle.laws.specs.Bools.{every, count}
use Rattle.laws.specs.Bits.{has_bit, from_bits}
use Rattle.laws.specs.Lists.{tabulate_from}
use Rattle.laws.specs.Refusals.{first_of, each}
use Rattle.floats.specs.Finite.{finite, all_finite}
use Rattle.stops.specs.Stops.{stop_at, cut_at, stops_wrong, main_points}
use Rattle.sets.specs.Sets.{bit_of, tests, test_of, has, set_of, too_large}
use Rattle.rules.specs.declared.Limits.{Limits}
use Rattle.rules.specs.declared.Lines.{Lines}
use Rattle.rules.specs.Lines.{one_sigma, two_sigma, lines_of}
use Rattle.rules.specs.Tests.{steps, alternating, window, shows}
use Rattle.rules.specs.Finite.{finite_limits}
use Rattle.rules.specs.Terms.{under}
use Rattle.rules.specs.Marking.{newest_first, stands, marks_at, marks_by, marks_of, most, ahead}
use Rattle.rules.proofs.ZoneLines.{modes-agree}
use Rattle.evidence.specs.Evidence.{shown_at}
use Rattle.histories.specs.declared.Lane.{Lane}
use Rattle.histories.specs.Lanes.{after}
use Rattle.histories.specs.Taking.{unchanged, marked, take_value}
use Rattle.histories.proofs.Answers.{in_order}
use Rattle.charts.specs.Records.{record_wrong}
use Rattle.evaluating.specs.Asked.{Asked, stored}
use Rattle.evaluating.specs.Evaluating.{positions_wrong, too_few, sound, answer_for, evaluate_of}
use Rattle.promises.proofs.Base.{lines01, lines-are-01}

-- ---- mode 0

module _ (l : Limits) (stops : List ℕ) (moving : Bool) (set : ℕ) (values : List Float) where
  -- "5, 15, 4, 3 for limits, 3 for values", as R-1 left them
  pub ahead_stopped : List (Bool × ℕ)
  ahead_stopped =
      (ltb most (length values), 5)
      ∷ (stops_wrong (main_points moving (length values)) stops, 15)
      ∷ (too_large set, 4)
      ∷ (not (finite_limits l), 3)
      ∷ (not (all_finite values), 3)
      ∷ []

  -- marking, checking, writing and lanes refuse by them, whatever they answer with a number and else
  pub refused-as-before : {A : Type 0} (f : ℕ → A) (else : A) → first_of (each f (ahead (under l 0 stops moving) set values)) else ≡ first_of (each f ahead_stopped) else
  unfolding ahead each first_of ahead_stopped
  refused-as-before f else = refl

  -- and the marks are those of 01's lines
  pub marked-as-before : marks_of (under l 0 stops moving) set values ≡ marks_by (cut_at stops moving) (lines01 l) set values
  unfolding marks_of
  marked-as-before = ap (λ (m : Lines). marks_by (cut_at stops moving) m set values) (lines-are-01 l)

  -- evidence: as R-1 left it
  pub shown-as-before : (at bit : ℕ) → (let past = newest_first (cut_at stops moving) values (suc at) in
      shown_at values (under l 0 stops moving) at bit
      ≡ (ltb at (length values)
      && (ltb bit (length tests)
      && (not (stops_wrong (main_points moving (length values)) stops)
      && (finite_limits l && (all_finite (take (window (test_of bit)) past) && stands (lines01 l) past (test_of bit)))))))
  unfolding shown_at
  shown-as-before at bit = rw (lines-are-01 l) refl

-- a lane: "3 and 4, in marking's order"
pub taken-as-before : (l : Limits) (set : ℕ) (lane : Lane) (v : Float)
    → take_value l 0 set lane v
    ≡ first_of ((too_large set, unchanged lane 4) ∷ (not (finite_limits l), unchanged lane 3) ∷ (not (finite v), unchanged lane 3) ∷ [])
    (marked set (after (lines01 l) lane v))
unfolding first_of
taken-as-before l set lane v = in_order l 0 set lane v ∙ rw (lines-are-01 l) refl

-- evaluating: "14, 8, 6, 3 for stored values, 7" with 15 "after 14"
pub evaluated-as-before : (a : Asked) → a.width ≡ 0 → (short : Bool)
    → evaluate_of a short
    ≡ answer_for
    (first_of
    ((record_wrong a.chart (length a.values), 14) ∷ (positions_wrong a.chart a.positions, 15) ∷ (too_few a.chart, 8) ∷ (short, 6)
    ∷ (not (all_finite (stored a)), 3) ∷ (not (sound a), 7) ∷ [])
    0)
    a
unfolding evaluate_of first_of
evaluated-as-before a default short = rw default refl

-- ---- "limits symmetric to the bit": both modes agree

pub marks-agree : (l : Limits) (stops : List ℕ) (moving : Bool) (set : ℕ) (values : List Float)
    → sub binary64 l.cl l.lcl ≡ sub binary64 l.ucl l.cl
    → marks_of (under l 1 stops moving) set values ≡ marks_of (under l 0 stops moving) set values
unfolding marks_of
marks-agree l stops moving set values symmetric = ap (λ (m : Lines). marks_by (cut_at stops moving) m set values) (modes-agree l symmetric 1)

-- ---- worked: the limits 31, 25, 22 and two of three values at 22.5

abbrev skew : Limits
skew = record { ucl = of_bits binary64 0x403f000000000000; cl = of_bits binary64 0x4039000000000000; lcl = of_bits binary64 0x4036000000000000 }

abbrev marks_in : ℕ → List ℕ
marks_in width = marks_of (under skew width [] false) 511
    (of_bits binary64 0x4036800000000000 ∷ of_bits binary64 0x4039000000000000 ∷ of_bits binary64 0x4036800000000000 ∷ [])

-- By mode 0 two sigma below the centre line is 21, further down than the lower limit: nothing is marked. By mode 1 it is 23, and two of three
-- lie beyond it (16).
both-modes : (marks_in 0 ≡ 0 ∷ 0 ∷ 0 ∷ []) × (marks_in 1 ≡ 0 ∷ 0 ∷ 16 ∷ [])
unfolding marks_of marks_at cut_at stop_at tabulate_from newest_first stands window shows tests bit_of has set_of has_bit from_bits every count steps alternating
    lines_of one_sigma two_sigma of_bits add sub mul div lt le
both-modes = (refl, refl)
