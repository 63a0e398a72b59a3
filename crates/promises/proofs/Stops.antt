-- Stops: whether positions are some, and where they part a series; and 02's R-1 worked on nine values. Assumes nothing.
use mathlib.Core.Path.{◌≡◌, refl, sym, ◌∙◌}
use mathlib.Core.Bool.{Bool, true, false, not, ◌&&◌}
use mathlib.Core.List.{List, [], ◌∷◌}
use Prim.Native.Nat.{ℕ}
use lib.Ieee.{binary64, of_bits, add, sub, mul, div, lt, le}
use lib.ListN.{replicate}
use Rattle.laws.specs.Bools.{every, count}
use Rattle.laws.specs.Bits.{has_bit, from_bits}
use Rattle.laws.specs.Lists.{tabulate_from}
use Rattle.stops.specs.Stops.{stop_at, cut_at, rising, stops_wrong, main_points}
use Rattle.sets.specs.Sets.{bit_of, tests, has, set_of}
use Rattle.rules.specs.declared.Limits.{Limits}
use Rattle.rules.specs.Lines.{one_sigma, two_sigma, lines_of}
use Rattle.rules.specs.Tests.{steps, alternating, window, shows}
use Rattle.rules.specs.Terms.{under}
use Rattle.rules.specs.Marking.{newest_first, stands, marks_at, marks_of}
use Rattle.stops.proofs.wrong.Reads as wrong
use Rattle.stops.proofs.wrong.Kinds as wrong-kinds
use Rattle.stops.proofs.since.Reads as since
use Rattle.stops.proofs.since.Kinds as since-kinds
use Rattle.promises.proofs.Coincide.{Coincide}

wrong-one : Coincide 1 wrong-kinds.ps wrong-kinds.r wrong.Post (λ κs x s. x)
wrong-one κs a x y s t p q = p ∙ sym q

since-one : Coincide 1 since-kinds.ps since-kinds.r since.Post (λ κs x s. x)
since-one κs a x y s t p q = p ∙ sym q

-- ---- worked: nine values of 26.5 under the limits 28, 25, 22 and the set nelson

abbrev usual : Limits
usual = record { ucl = of_bits binary64 0x403c000000000000; cl = of_bits binary64 0x4039000000000000; lcl = of_bits binary64 0x4036000000000000 }

abbrev marks_with : List ℕ → Bool → List ℕ
marks_with stops moving = marks_of (under usual 0 stops moving) 255 (replicate 9 (of_bits binary64 0x403a800000000000))

-- With no stops four of five lie beyond one sigma from position 4 on (32), eight do at 7 (128), and nine lie on one side at 8 (2). A stop
-- before position 3 leaves six values in a row, of which the fifth and the sixth have four of five. On moving ranges a stop at 4 is straddled
-- by the range at position 3, which belongs to neither side: five are left behind it.
with-stops : (marks_with [] false ≡ 0 ∷ 0 ∷ 0 ∷ 0 ∷ 32 ∷ 32 ∷ 32 ∷ 160 ∷ 162 ∷ [])
    × (marks_with (3 ∷ []) false ≡ 0 ∷ 0 ∷ 0 ∷ 0 ∷ 0 ∷ 0 ∷ 0 ∷ 32 ∷ 32 ∷ [])
    × (marks_with (4 ∷ []) false ≡ 0 ∷ 0 ∷ 0 ∷ 0 ∷ 0 ∷ 0 ∷ 0 ∷ 0 ∷ 32 ∷ [])
    × (marks_with (4 ∷ []) true ≡ 0 ∷ 0 ∷ 0 ∷ 0 ∷ 0 ∷ 0 ∷ 0 ∷ 0 ∷ 32 ∷ [])
    × (marks_with (5 ∷ []) false ≡ 0 ∷ 0 ∷ 0 ∷ 0 ∷ 32 ∷ 0 ∷ 0 ∷ 0 ∷ 0 ∷ [])
    × (marks_with (5 ∷ []) true ≡ 0 ∷ 0 ∷ 0 ∷ 0 ∷ 0 ∷ 0 ∷ 0 ∷ 0 ∷ 0 ∷ [])
unfolding marks_of marks_at cut_at stop_at tabulate_from newest_first stands window shows tests bit_of has set_of has_bit from_bits every count steps alternating
    lines_of one_sigma two_sigma of_bits add sub mul div lt le
with-stops = (refl, refl, refl, refl, refl, refl)

-- 15, of a main series of nine points and of nine moving ranges: 1 and 8 are taken, 9 only on moving ranges; not 0, nor 10, nor equal or
-- falling stops
judged-stops : (not (stops_wrong (main_points false 9) (1 ∷ 8 ∷ [])) && not (stops_wrong (main_points true 9) (1 ∷ 9 ∷ []))
    && stops_wrong (main_points false 9) (1 ∷ 9 ∷ []) && stops_wrong (main_points true 9) (1 ∷ 10 ∷ []) && stops_wrong (main_points false 9) (0 ∷ 8 ∷ [])
    && stops_wrong (main_points false 9) (3 ∷ 3 ∷ []) && stops_wrong (main_points false 9) (3 ∷ 2 ∷ []) && stops_wrong (main_points false 0) (1 ∷ [])
    && stops_wrong (main_points true 0) (1 ∷ [])) ≡ true
unfolding stops_wrong rising every
judged-stops = refl
