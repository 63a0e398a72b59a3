-- The sigma figures (01, 'The charts': "by the source's formulas, in its order of operations"; Order: "Sigma figures: 14, 8, 3, 7, as
-- evaluating would"). Definitions only.
use Rattle.std.specs.Prelude.{ℕ, false, cond, ◌==◌, Float, Result, Ok, Err}
use Rattle.std.specs.Float.{binary64}
use Rattle.std.specs.Float.Ieee.{add, sub, mul, div}
use Rattle.laws.specs.Refusals.{first_of}
use Rattle.numbers.specs.Numbers.{answered}
use Rattle.floats.specs.Values.{plus_zero, whole, decimal}
use Rattle.charts.specs.declared.Chart.{Chart}
use Rattle.charts.specs.Records.{number, by_kind}
use Rattle.charts.specs.declared.Refusal.{Refusal}
use Rattle.evaluating.specs.declared.SigmaFigures.{SigmaFigures}
use Rattle.evaluating.specs.Asked.{Asked}
use Rattle.evaluating.specs.Factors.{factor_of, D4, D2, C4}
use Rattle.evaluating.specs.Series.{points_in}
use Rattle.evaluating.specs.Limits.{factor_for, centre_of}
use Rattle.evaluating.specs.Evaluating.{refusals}

-- the number and the value that each answer stands for; a refusal's value is zero
abbrev pub figured : Result Float Refusal → ℕ × Float
figured = answered number (λ v. v) plus_zero

abbrev pub estimated : Result SigmaFigures Refusal → ℕ × Float × Float
estimated (Ok e) = (0, e.sigma_hat, e.sigma_hat_df)
estimated (Err why) = (number why, plus_zero, plus_zero)

-- "14, 8, 3, 7, as evaluating would"
unfoldable pub sigma_number : Asked → ℕ
sigma_number a = first_of (refusals a false false false) 0

-- the number, and the value where it is 0
unfoldable pub unless_refused : ℕ → Float → ℕ × Float
unless_refused n v = (n, cond (n == 0) v plus_zero)

-- ---- sigma_hat: "sigma-hat = R-bar / d2(n)", "S-bar / c4(n)", "MR-bar / d2(2)". The mean of the dispersion series is its centre line.

unfoldable pub sigma_from : Chart → Float → Float
sigma_from c mean = div binary64 mean (factor_for c (factor_of D2 2) D2 C4)

unfoldable pub sigma_hat_of : Asked → ℕ × Float
sigma_hat_of a = unless_refused (sigma_number a) (sigma_from a.chart (centre_of a 1))

-- ---- sigma_hat_df

-- "1.0 / a - 3.0 * a / 16.0 + 3.0 * a * a / 64.0 + 0.25", with "a = 2.0 * cv2"
abbrev pub df_series : Float → Float
df_series a =
    add binary64
    (add binary64
    (sub binary64 (div binary64 (decimal 1 10) a) (div binary64 (mul binary64 (decimal 1 30) a) (decimal 1 160)))
    (div binary64 (mul binary64 (mul binary64 (decimal 1 30) a) a) (decimal 1 640)))
    (decimal 2 25)

unfoldable pub equivalent_df : Float → Float
equivalent_df cv2 = df_series (mul binary64 (decimal 1 20) cv2)

-- "cv * cv / m", with "cv = (D4 - 1.0) / 3.0"
abbrev pub range_cv : Float → Float
range_cv f = div binary64 (sub binary64 f (decimal 1 10)) (decimal 1 30)

unfoldable pub range_cv2 : Float → Float → Float
range_cv2 f m = div binary64 (mul binary64 (range_cv f) (range_cv f)) m

-- "(1.0 - c4 * c4) / (c4 * c4 * m)"
unfoldable pub deviation_cv2 : Float → Float → Float
deviation_cv2 f m = div binary64 (sub binary64 (decimal 1 10) (mul binary64 f f)) (mul binary64 (mul binary64 f f) m)

-- individuals: "0.62 * (N - 1)"; N - 1 moving ranges or m subgroups are the points of the dispersion series
abbrev pub dispersion_points : Chart → Float
dispersion_points c = whole (points_in c 1)

unfoldable pub df_of : Chart → Float
df_of c =
    by_kind c.kind
    (mul binary64 (decimal 2 62) (dispersion_points c))
    (equivalent_df (range_cv2 (factor_of D4 c.size) (dispersion_points c)))
    (equivalent_df (deviation_cv2 (factor_of C4 c.size) (dispersion_points c)))

unfoldable pub sigma_hat_df_of : Asked → ℕ × Float
sigma_hat_df_of a = unless_refused (sigma_number a) (df_of a.chart)

-- ---- both: the number that they share, and their values

unfoldable pub estimate_of : Asked → ℕ × Float × Float
estimate_of a = (sigma_number a, (sigma_hat_of a).1, (sigma_hat_df_of a).1)
