-- 02's R-3 worked: nine values of 26.5 under the limits 28, 25, 22 and the set nelson, as marking has them, and a lane that nothing of ours
-- made. Assumes nothing.
use mathlib.Core.Path.{◌≡◌, refl}
use mathlib.Core.Bool.{false}
use mathlib.Core.List.{List, [], ◌∷◌}
use Prim.Native.Nat.{ℕ}
use lib.Ieee.{nan, binary64, of_bits, add, sub, mul, div, lt, le}
use lib.ListN.{replicate}
use Rattle.laws.specs.Bools.{every, count}
use Rattle.laws.specs.Bits.{has_bit, from_bits}
use Rattle.laws.specs.Lists.{tabulate_from, tabulate}
use Rattle.laws.specs.Refusals.{first_of, each}
use Rattle.floats.specs.Finite.{finite, all_finite}
use Rattle.stops.specs.Stops.{stop_at, cut_at, rising, stops_wrong}
use Rattle.sets.specs.Sets.{bit_of, tests, has, set_of}
use Rattle.rules.specs.declared.Limits.{Limits}
use Rattle.rules.specs.Finite.{finite_limits}
use Rattle.rules.specs.Lines.{one_sigma, two_sigma, lines_of}
use Rattle.rules.specs.Tests.{steps, window}
use Rattle.rules.specs.Terms.{under}
use Rattle.rules.specs.Marking.{ahead}
use Rattle.rules.specs.Columns.{signs, by_turns, judge, rule_of, up_of, down_of}
use Rattle.histories.specs.declared.Lane.{Lane}
use Rattle.histories.specs.Lanes.{kept, lane_of, pushed, after, fresh}
use Rattle.histories.specs.Taking.{shown, marks_at, unchanged, take_value}
use Rattle.histories.specs.Runs.{lane_after, outcome_at}

abbrev usual : Limits
usual = record { ucl = of_bits binary64 0x403c000000000000; cl = of_bits binary64 0x4039000000000000; lcl = of_bits binary64 0x4036000000000000 }

abbrev marks_with : List ℕ → List ℕ
marks_with stops = tabulate (λ i. (outcome_at (under usual 0 stops false) 255 (replicate 9 (of_bits binary64 0x403a800000000000)) i).1) 9

-- as marking has them: without stops, and with a fresh start before position 3
value-by-value : (marks_with [] ≡ 0 ∷ 0 ∷ 0 ∷ 0 ∷ 32 ∷ 32 ∷ 32 ∷ 160 ∷ 162 ∷ [])
    × (marks_with (3 ∷ []) ≡ 0 ∷ 0 ∷ 0 ∷ 0 ∷ 0 ∷ 0 ∷ 0 ∷ 32 ∷ 32 ∷ [])
unfolding lane_after take_value ahead each first_of stops_wrong rising cut_at stop_at tabulate_from all_finite finite finite_limits every count marks_at shown
    judge by_turns rule_of up_of down_of kept pushed after fresh signs steps window tests bit_of has set_of has_bit from_bits lines_of one_sigma two_sigma
    of_bits add sub mul div lt le
value-by-value = (refl, refl)

-- A lane whose histories say that every value was above two sigma and below it, and which has seen 40,000: the centre line itself ends the
-- run of eight on one side, but of the last three values two lay beyond two sigma (16), and of five four beyond one (32).
abbrev forgery : Lane
forgery = lane_of (λ s. 65535) nan 40000

forged-answer : (take_value usual 0 305 forgery (of_bits binary64 0x4039000000000000)).1 ≡ 48
unfolding take_value ahead each first_of stops_wrong rising tabulate_from all_finite finite finite_limits every count marks_at shown
    judge by_turns rule_of up_of down_of kept pushed after signs steps window tests bit_of has set_of has_bit from_bits lines_of one_sigma two_sigma
    of_bits add sub mul div lt le
forged-answer = refl

-- 4 comes before 21 and 3, and the lane is as it was
in-order-refused : take_value usual 2 512 forgery nan ≡ unchanged forgery 4
unfolding take_value ahead each first_of stops_wrong rising every
in-order-refused = refl
