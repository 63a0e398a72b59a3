-- Worked examples, computed by the definitions: decimal numbers, and 01's report, whole, from its bytes ('The report program').
-- Assumes nothing.
use mathlib.Core.Path.{◌≡◌, refl}
use mathlib.Core.List.{List, [], ◌∷◌, ◌++◌}
use Prim.Native.Nat.{ℕ, zero, suc}
use Prim.Native.Char.{code}
use Prim.Native.String.{String, len, char_at}
use lib.Ieee.{of_bits, to_bits, of_int, round, add, sub, mul, div, lt, le}
use Rattle.laws.specs.Bools.{every, count}
use Rattle.laws.specs.Bits.{has_bit, from_bits}
use Rattle.laws.specs.Lists.{tabulate, tabulate_from}
use Rattle.laws.specs.Refusals.{first_of}
use Rattle.groups.specs.Groups.{number_at}
use Rattle.sets.specs.Sets.{bit_of, tests, has, set_of}
use Rattle.floats.specs.Finite.{finite, all_finite}
use Rattle.stops.specs.Stops.{stop_at, cut_at}
use Rattle.rules.specs.Finite.{finite_limits}
use Rattle.rules.specs.Lines.{one_sigma, two_sigma, lines_of}
use Rattle.rules.specs.Tests.{steps, alternating, window, shows}
use Rattle.rules.specs.Marking.{newest_first, stands, marks_at, marks_of}
use Rattle.arith.specs.Arith.{mean_of, sign_cleared, moving_of}
use Rattle.charts.specs.Records.{by_kind, size_wrong}
use Rattle.evaluating.specs.Series.{by_series, point_at, points_in, series_of, moving_in}
use Rattle.evaluating.specs.Limits.{factor_for, main_limits, lower_limit, dispersion_limits, centre_of, limits_of}
use Rattle.evaluating.specs.Evaluating.{too_few, sound, series_marks}
use Rattle.reports.specs.Flow.{values_from, head_from, flow_of}
use Rattle.reports.specs.Text.{glyph, decimal, digits, spaced, v_lines, marks_in, listed, chart_text}
use Rattle.reports.specs.Report.{first_index, refusal_of, chart_report, text_of}

-- 0, 10 and 36855
decimals : (decimal 0 ≡ 48 ∷ []) × (decimal 10 ≡ 49 ∷ 48 ∷ []) × (decimal 36855 ≡ 51 ∷ 54 ∷ 56 ∷ 53 ∷ 53 ∷ [])
unfolding decimal glyph
decimals = (refl, refl, refl)

-- so many times 8.0
eights : ℕ → List ℕ
eights zero = []
eights (suc n) = 0x80 ∷ 0x80 ∷ 0x80 ∷ 0x80 ∷ 0x80 ∷ 0x80 ∷ 0x80 ∷ 0x90 ∷ 0x40 ∷ eights n

-- the bytes of some lines in ASCII, each with its end
lines : List String → List ℕ
unfolding tabulate_from
lines [] = []
lines (s ∷ ss) = tabulate (λ i. code (char_at s i)) (len s) ++ 10 ∷ lines ss

worked-report : text_of (0x01 ∷ 0x01 ∷ 0x40 ∷ 0x10 ∷ eights 16)
    ≡ lines
    ("C 1 1 64"
    ∷ "L 0 4020000000000000 4020000000000000 4020000000000000"
    ∷ "L 1 0000000000000000 0000000000000000 0000000000000000"
    ∷ "V 0 14 6"
    ∷ "V 0 15 6"
    ∷ "V 1 15 6"
    ∷ "E 3"
    ∷ [])
unfolding eights lines text_of flow_of head_from values_from number_at chart_report refusal_of first_index first_of too_few size_wrong by_kind
    all_finite finite finite_limits every count sound limits_of centre_of main_limits dispersion_limits lower_limit factor_for
    series_of tabulate_from point_at points_in by_series moving_of sign_cleared mean_of series_marks
    marks_of marks_at moving_in cut_at stop_at newest_first stands window shows tests bit_of has set_of has_bit from_bits steps alternating lines_of one_sigma two_sigma
    glyph decimal digits spaced v_lines marks_in listed chart_text
    of_bits to_bits of_int round add sub mul div lt le
worked-report = refl
