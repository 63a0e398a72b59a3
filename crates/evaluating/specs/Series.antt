-- The two series of a chart: series 0 is the main one, series 1 that of the dispersion (01, 'The charts'). Definitions only.
use Rattle.std.specs.Prelude.{ℕ, ◌+◌, ◌-◌, Bool, true, false, cond, List, [], ◌∷◌, ◌==◌, slice_index_or, Float, Result, Ok, Err}
use Rattle.std.specs.Float.{nan}
use Rattle.laws.specs.Lists.{tabulate}
use Rattle.laws.specs.Refusals.{first_of}
use Rattle.arith.specs.Arith.{mean_of, range_of, deviation_of, moving_of}
use Rattle.charts.specs.declared.Chart.{Chart}
use Rattle.charts.specs.Records.{number, by_kind, own_wrong}
use Rattle.charts.specs.declared.Refusal.{Refusal}
use Rattle.evaluating.specs.declared.Lengths.{Lengths}
use Rattle.evaluating.specs.Asked.{Asked, sample_at}

-- one thing for each series
unfoldable pub by_series : {A : Type 0} → ℕ → A → A → A
by_series s main dispersion = cond (s == 0) main dispersion

-- ---- the series

-- The point at place i. Of the main series it is the observation, or the sample's mean; of that of the dispersion the moving range to the
-- next observation, the sample's range, or its deviation.
unfoldable pub point_at : Asked → ℕ → ℕ → Float
point_at a s i =
    by_series s
    (by_kind a.chart.kind (slice_index_or a.values i nan) (mean_of (sample_at a i)) (mean_of (sample_at a i)))
    (by_kind a.chart.kind (moving_of (slice_index_or a.values i nan) (slice_index_or a.values (i + 1) nan)) (range_of (sample_at a i)) (deviation_of (sample_at a i)))

-- "A moving range series has one point fewer than the main one."
unfoldable pub points_in : Chart → ℕ → ℕ
points_in c s = by_series s c.count (by_kind c.kind (c.count - 1) c.count c.count)

unfoldable pub series_of : Asked → ℕ → List Float
series_of a s = tabulate (point_at a s) (points_in a.chart s)

-- whether a series is that of the moving ranges
unfoldable pub moving_in : Chart → ℕ → Bool
moving_in c s = by_series s false (by_kind c.kind true false false)

-- ---- how many points there are

-- the number of each answer, and how many points the main and the dispersion series have; a refusal's are zero
abbrev pub lengths : Result Lengths Refusal → ℕ × ℕ × ℕ
lengths (Ok points) = (0, points.main, points.dispersion)
lengths (Err why) = (number why, 0, 0)

-- 14 "with no slice": by the record's own numbers
unfoldable pub points_of : Chart → ℕ × ℕ × ℕ
points_of c = first_of ((own_wrong c, (14, 0, 0)) ∷ []) (0, points_in c 0, points_in c 1)
