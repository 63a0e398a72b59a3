-- 01's three observations of 0.1, a chart of kind 2 and one of kind 3, and a refusal 8 and a 7, computed. Floats are compared by their bits.
-- Assumes nothing.
use Rattle.std.proofs.Common.{◌≡◌, ℕ, ◌+◌, ◌^◌, Bool, true, not, ◌&&◌, eqb, List, [], ◌∷◌, refl}
use lib.Ieee.{Float, binary64, of_bits, to_bits, of_int, round, add, sub, mul, div, lt, le}
use Rattle.laws.specs.Bools.{every, count}
use Rattle.laws.specs.Bits.{has_bit, from_bits}
use Rattle.laws.specs.Lists.{tabulate_from}
use Rattle.laws.specs.Refusals.{first_of}
use Rattle.sets.specs.Sets.{bit_of, tests, has, set_of}
use Rattle.root.specs.Root.{root_of}
use Rattle.stops.specs.Stops.{stop_at, cut_at, rising, stops_wrong}
use Rattle.rules.specs.declared.Limits.{Limits}
use Rattle.floats.specs.Finite.{finite, all_finite}
use Rattle.floats.specs.Values.{decimal}
use Rattle.rules.specs.Finite.{finite_limits}
use Rattle.rules.specs.Lines.{one_sigma, two_sigma, lines_of}
use Rattle.rules.specs.Tests.{steps, alternating, window, shows}
use Rattle.rules.specs.Marking.{newest_first, stands, marks_at, marks_of}
use Rattle.arith.specs.Arith.{mean_of, range_of, or_nan, deviation_of, sign_cleared, moving_of}
use Rattle.charts.specs.declared.Chart.{Chart}
use Rattle.charts.specs.Records.{by_kind, size_wrong, own_wrong, record_wrong}
use Rattle.evaluating.specs.Asked.{Asked, asked}
use Rattle.evaluating.specs.Factors.{factor_of}
use Rattle.evaluating.specs.Series.{by_series, point_at, points_in, points_of, series_of, moving_in}
use Rattle.evaluating.specs.Limits.{factor_for, main_limits, lower_limit, dispersion_limits, centre_of, limits_of}
use Rattle.evaluating.specs.Evaluating.{Answer, answer_refused, positions_wrong, too_few, no_room, sound, series_marks, number_of, answer_for, evaluate_of}
use Rattle.evaluating.specs.Sigma.{sigma_number, unless_refused, sigma_from, sigma_hat_of, df_of}

abbrev pub bits : Float → ℕ
bits x = to_bits binary64 x

-- individuals, n observations, set shewhart
abbrev pub individuals : ℕ → Chart
individuals n = record { kind = 1; size = 1; count = n; set = record { mask = 1 }; stops = 0 }

-- ---- "three observations of 0.1 have the mean 0.10000000000000002 here, range 0, and all three get bit 0"

abbrev pub tenths : List Float
tenths = decimal 1 1 ∷ decimal 1 1 ∷ decimal 1 1 ∷ []

abbrev pub three_tenths : Asked
three_tenths = asked (individuals 3) tenths

-- 0.10000000000000002
abbrev pub mean : ℕ
mean = 0x3fb999999999999b

pub tenths-mean : eqb (bits (mean_of tenths)) mean ≡ true
unfolding mean_of of_bits to_bits of_int round add div
tenths-mean = refl

-- the three limits of a series have these bits
abbrev pub three_are : ℕ → Limits → Bool
three_are n l = eqb (bits l.ucl) n && eqb (bits l.cl) n && eqb (bits l.lcl) n

pub tenths-limits : (three_are mean (limits_of three_tenths 0) && three_are 0 (limits_of three_tenths 1)) ≡ true
unfolding limits_of centre_of main_limits dispersion_limits lower_limit factor_for
    series_of tabulate_from point_at points_in by_kind by_series moving_of sign_cleared mean_of
    of_bits to_bits of_int round add sub mul div
tenths-limits = refl

-- all three get bit 0
pub tenths-marks : series_marks three_tenths 0 ≡ (1 ∷ 1 ∷ 1 ∷ [])
unfolding limits_of centre_of main_limits dispersion_limits lower_limit factor_for factor_of
    series_of tabulate_from point_at points_in by_kind by_series moving_of sign_cleared mean_of
    series_marks marks_of marks_at lines_of one_sigma two_sigma set_of from_bits has has_bit tests bit_of
    newest_first moving_in cut_at stop_at stands window shows steps alternating every count
    of_bits of_int round add sub mul div lt le
tenths-marks = refl

-- evaluated, they have three marks, so it is not said that none stands
abbrev pub tenths_answer : Answer
tenths_answer = evaluate_of three_tenths (no_room (individuals 3) 3 2 3 2)

pub tenths-answer : (eqb tenths_answer.number 0 && eqb tenths_answer.marks 3 && not tenths_answer.none_stands) ≡ true
unfolding evaluate_of answer_for first_of record_wrong own_wrong size_wrong positions_wrong stops_wrong rising too_few no_room sound all_finite finite finite_limits every
    limits_of centre_of main_limits dispersion_limits lower_limit factor_for factor_of
    series_of tabulate_from point_at points_in by_kind by_series moving_of sign_cleared mean_of
    series_marks number_of marks_of marks_at lines_of one_sigma two_sigma set_of from_bits has has_bit tests bit_of
    newest_first moving_in cut_at stop_at stands window shows steps alternating count
    of_bits to_bits of_int round add sub mul div lt le
tenths-answer = refl

-- their sigma figures: 0.0, and 0.62 for each of the two moving ranges
pub tenths-sigma : (eqb (sigma_hat_of three_tenths).0 0 && eqb (bits (sigma_hat_of three_tenths).1) 0) ≡ true
unfolding sigma_hat_of sigma_number unless_refused sigma_from first_of record_wrong own_wrong size_wrong too_few sound all_finite finite finite_limits every
    limits_of centre_of main_limits dispersion_limits lower_limit factor_for factor_of
    series_of tabulate_from point_at points_in by_kind by_series moving_of sign_cleared mean_of
    of_bits to_bits of_int round add sub mul div
tenths-sigma = refl

pub tenths-df : eqb (bits (df_of (individuals 3))) (bits (decimal 2 124)) ≡ true
unfolding df_of by_kind by_series points_in to_bits of_int round mul
tenths-df = refl

-- how many points there are: one moving range fewer than observations, and none of either before the first observation
pub tenths-points : (points_of (individuals 3) ≡ (0, 3, 2)) × (points_of (individuals 0) ≡ (0, 0, 0))
unfolding points_of first_of own_wrong size_wrong points_in by_kind by_series
tenths-points = (refl, refl)

-- ---- two subgroups with the means -2 and 2, as kind 2 and as kind 3, set shewhart

-- so many values to a subgroup
abbrev pub subgroups : ℕ → ℕ → Chart
subgroups kind n = record { kind = kind; size = n; count = 2; set = record { mask = 1 }; stops = 0 }

abbrev pub limits_are : ℕ → ℕ → ℕ → Limits → Bool
limits_are u c l x = eqb (bits x.ucl) u && eqb (bits x.cl) c && eqb (bits x.lcl) l

-- a number below zero: its sign is bit 63
abbrev pub negated : ℕ → ℕ
negated n = n + 2 ^ 63

-- 1.0
abbrev pub one : ℕ
one = 0x3ff0000000000000

-- Kind 2: -3.0, -1.0 and 2.0, 2.0. The ranges are 2 and 0. The mean of the means is 0, that of the ranges 1, so the limits are the factors of
-- size 2 themselves: 0 ± 1.880 (A2), and 3.267 (D4), 1, 0.000 (D3).
abbrev pub pairs : List Float
pairs = of_bits binary64 0xc008000000000000 ∷ of_bits binary64 0xbff0000000000000 ∷ of_bits binary64 0x4000000000000000 ∷ of_bits binary64 0x4000000000000000 ∷ []

pub pairs-limits : (limits_are (bits (decimal 3 1880)) 0 (negated (bits (decimal 3 1880))) (limits_of (asked (subgroups 2 2) pairs) 0)
    && limits_are (bits (decimal 3 3267)) one 0 (limits_of (asked (subgroups 2 2) pairs) 1)) ≡ true
unfolding limits_of centre_of main_limits dispersion_limits lower_limit factor_for factor_of
    series_of tabulate_from point_at points_in by_kind by_series mean_of range_of
    of_bits to_bits of_int round add sub mul div lt
pairs-limits = refl

-- 2 is more than 1.880, so both means get bit 0; the ranges lie within
pub pairs-marks : series_marks (asked (subgroups 2 2) pairs) 0 ≡ (1 ∷ 1 ∷ [])
unfolding limits_of centre_of main_limits dispersion_limits lower_limit factor_for factor_of
    series_of tabulate_from point_at points_in by_kind by_series mean_of range_of
    series_marks marks_of marks_at lines_of one_sigma two_sigma set_of from_bits has has_bit tests bit_of
    newest_first moving_in cut_at stop_at stands window shows steps alternating every count
    of_bits of_int round add sub mul div lt le
pairs-marks = refl

pub pairs-ranges : series_marks (asked (subgroups 2 2) pairs) 1 ≡ (0 ∷ 0 ∷ [])
unfolding limits_of centre_of main_limits dispersion_limits lower_limit factor_for factor_of
    series_of tabulate_from point_at points_in by_kind by_series mean_of range_of
    series_marks marks_of marks_at lines_of one_sigma two_sigma set_of from_bits has has_bit tests bit_of
    newest_first moving_in cut_at stop_at stands window shows steps alternating every count
    of_bits of_int round add sub mul div lt le
pairs-ranges = refl

-- Kind 3: -4.0, -2.0, 0.0 and three of 2.0. The squares of the first are 4, 0 and 4, and 8 / 2 has the root 2; the second's deviation is 0. The
-- mean of the means is 0, that of the deviations 1, so the limits are the factors of size 3: 0 ± 1.954 (A3), and 2.568 (B4), 1, 0.000 (B3).
abbrev pub threes : List Float
threes =
    of_bits binary64 0xc010000000000000 ∷ of_bits binary64 0xc000000000000000 ∷ of_bits binary64 0
    ∷ of_bits binary64 0x4000000000000000 ∷ of_bits binary64 0x4000000000000000 ∷ of_bits binary64 0x4000000000000000 ∷ []

pub threes-limits : (limits_are (bits (decimal 3 1954)) 0 (negated (bits (decimal 3 1954))) (limits_of (asked (subgroups 3 3) threes) 0)
    && limits_are (bits (decimal 3 2568)) one 0 (limits_of (asked (subgroups 3 3) threes) 1)) ≡ true
unfolding limits_of centre_of main_limits dispersion_limits lower_limit factor_for factor_of
    series_of tabulate_from point_at points_in by_kind by_series mean_of deviation_of or_nan root_of
    of_bits to_bits of_int round add sub mul div lt
threes-limits = refl

-- 2 is more than 1.954, so both means get bit 0; the deviations lie within
pub threes-marks : series_marks (asked (subgroups 3 3) threes) 0 ≡ (1 ∷ 1 ∷ [])
unfolding limits_of centre_of main_limits dispersion_limits lower_limit factor_for factor_of
    series_of tabulate_from point_at points_in by_kind by_series mean_of deviation_of or_nan root_of
    series_marks marks_of marks_at lines_of one_sigma two_sigma set_of from_bits has has_bit tests bit_of
    newest_first moving_in cut_at stop_at stands window shows steps alternating every count
    of_bits of_int round add sub mul div lt le
threes-marks = refl

pub threes-deviations : series_marks (asked (subgroups 3 3) threes) 1 ≡ (0 ∷ 0 ∷ [])
unfolding limits_of centre_of main_limits dispersion_limits lower_limit factor_for factor_of
    series_of tabulate_from point_at points_in by_kind by_series mean_of deviation_of or_nan root_of
    series_marks marks_of marks_at lines_of one_sigma two_sigma set_of from_bits has has_bit tests bit_of
    newest_first moving_in cut_at stop_at stands window shows steps alternating every count
    of_bits of_int round add sub mul div lt le
threes-deviations = refl

-- ---- one observation is too few (8), which says that no mark stands; the range of two may be too large (7)

pub one-observation : evaluate_of (asked (individuals 1) (decimal 1 80 ∷ [])) (no_room (individuals 1) 1 0 1 0) ≡ answer_refused 8
unfolding evaluate_of answer_for first_of record_wrong own_wrong size_wrong positions_wrong stops_wrong rising every too_few no_room by_kind by_series points_in
one-observation = refl

-- the largest f64, then its opposite
abbrev pub apart : List Float
apart = of_bits binary64 0x7fefffffffffffff ∷ of_bits binary64 0xffefffffffffffff ∷ []

pub apart-number : eqb (evaluate_of (asked (individuals 2) apart) (no_room (individuals 2) 2 1 2 1)).number 7 ≡ true
unfolding evaluate_of answer_for first_of record_wrong own_wrong size_wrong positions_wrong stops_wrong rising too_few no_room sound all_finite finite finite_limits every
    limits_of centre_of main_limits dispersion_limits lower_limit factor_for factor_of
    series_of tabulate_from point_at points_in by_kind by_series moving_of sign_cleared mean_of
    of_bits of_int round add sub mul div
apart-number = refl
