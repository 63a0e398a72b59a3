-- The limits of a chart by its centre lines alone, the means of its two series: what evaluating works out from its points, and first-week
-- limits (02, R-7) "afresh from those kept". Definitions only.
use Rattle.std.specs.Prelude.{ℕ, not, ◌&&◌, [], ◌∷◌, Float, Result, Ok, Err}
use Rattle.laws.specs.Refusals.{first_of}
use Rattle.rules.specs.declared.Limits.{Limits}
use Rattle.rules.specs.Finite.{finite_limits}
use Rattle.charts.specs.declared.Chart.{Chart}
use Rattle.charts.specs.Records.{number, own_wrong}
use Rattle.charts.specs.declared.Refusal.{Refusal}
use Rattle.evaluating.specs.declared.ChartLimits.{ChartLimits}
use Rattle.evaluating.specs.Limits.{main_limits, dispersion_limits}
use Rattle.evaluating.specs.Evaluating.{zero_limits}

-- the number of each answer, and the limits of the main and of the dispersion series; a refusal's are zero
abbrev pub limited : Result ChartLimits Refusal → ℕ × Limits × Limits
limited (Ok limits) = (0, limits.main, limits.dispersion)
limited (Err why) = (number why, zero_limits, zero_limits)

-- 14 "with no slice", by the record's own numbers, and 7: "a computed .. limit is not finite"
unfoldable pub limits_about : Chart → Float → Float → ℕ × Limits × Limits
limits_about c m d =
    first_of
    ((own_wrong c, (14, zero_limits, zero_limits))
    ∷ (not (finite_limits (main_limits c m d) && finite_limits (dispersion_limits c d)), (7, zero_limits, zero_limits))
    ∷ [])
    (0, main_limits c m d, dispersion_limits c d)
