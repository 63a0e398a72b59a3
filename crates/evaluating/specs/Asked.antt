-- What a chart is asked about: "a small record .. beside a lent slice of f64" (01, 'The charts', last paragraph), and for evaluating "a lent
-- .. list of positions" (02, R-1) and a width mode (02, R-5). Definitions only.
use Rattle.std.specs.Prelude.{ℕ, ◌*◌, List, [], take, drop, Float}
use Rattle.charts.specs.declared.Chart.{Chart}

pub record Asked : Type 0 where
  pub chart : Chart
  pub values : List Float
  pub positions : List ℕ
  pub width : ℕ

-- beside values alone, in the default mode
abbrev pub asked : Chart → List Float → Asked
asked c values = record { chart = c; values = values; positions = []; width = 0 }

-- and beside a list of positions
abbrev pub interrupted : Asked → List ℕ → Asked
interrupted a positions = record { chart = a.chart; values = a.values; positions = positions; width = a.width }

-- in a width mode
abbrev pub in_mode : Asked → ℕ → Asked
in_mode a width = record { chart = a.chart; values = a.values; positions = a.positions; width = width }

-- the stops: of the positions the first, as many as the record counts
abbrev pub stops_among : Chart → List ℕ → List ℕ
stops_among c positions = take c.stops positions

-- the stored values
abbrev pub stored : Asked → List Float
stored a = take (a.chart.count * a.chart.size) a.values

-- the sample at place i
abbrev pub sample_at : Asked → ℕ → List Float
sample_at a i = take a.chart.size (drop (i * a.chart.size) a.values)
