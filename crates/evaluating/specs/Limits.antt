-- The limits of both series (01, 'The charts', "Limits"). Definitions only.
use Rattle.std.specs.Prelude.{ℕ, Float}
use Rattle.std.specs.Float.{binary64}
use Rattle.std.specs.Float.Ieee.{add, sub, mul}
use Rattle.rules.specs.declared.Limits.{Limits}
use Rattle.floats.specs.Values.{plus_zero, decimal}
use Rattle.arith.specs.Arith.{mean_of}
use Rattle.charts.specs.declared.Chart.{Chart}
use Rattle.charts.specs.Records.{by_kind}
use Rattle.evaluating.specs.Asked.{Asked}
use Rattle.evaluating.specs.Factors.{factor_of, A2, D3, D4, A3, B3, B4}
use Rattle.evaluating.specs.Series.{by_series, series_of}

-- a figure for individuals, and for subgroups the factor of the kind's row
unfoldable pub factor_for : Chart → Float → ℕ → ℕ → Float
factor_for c individuals ranges deviations = by_kind c.kind individuals (factor_of ranges c.size) (factor_of deviations c.size)

-- "X-bar m ± A2*rbar or m ± A3*sbar; .. individuals m ± 2.660*mrbar": m and d are the means of the main and of the dispersion series
abbrev pub width : Chart → Float → Float
width c d = mul binary64 (factor_for c (decimal 3 2660) A2 A3) d

unfoldable pub main_limits : Chart → Float → Float → Limits
main_limits c m d = record { ucl = add binary64 m (width c d); cl = m; lcl = sub binary64 m (width c d) }

-- "R is D4*rbar, rbar, D3*rbar; S likewise with B4 and B3; .. MR is 3.267*mrbar, mrbar, 0.0"
unfoldable pub lower_limit : Chart → Float → Float
lower_limit c d = by_kind c.kind plus_zero (mul binary64 (factor_of D3 c.size) d) (mul binary64 (factor_of B3 c.size) d)

unfoldable pub dispersion_limits : Chart → Float → Limits
dispersion_limits c d = record { ucl = mul binary64 (factor_for c (decimal 3 3267) D4 B4) d; cl = d; lcl = lower_limit c d }

-- the mean of a series: its centre line
unfoldable pub centre_of : Asked → ℕ → Float
centre_of a s = mean_of (series_of a s)

unfoldable pub limits_of : Asked → ℕ → Limits
limits_of a s = by_series s (main_limits a.chart (centre_of a 0) (centre_of a 1)) (dispersion_limits a.chart (centre_of a 1))
