-- What the code's inner steps answer. A reader need not believe it: no contract of a public function cites it. Definitions only.
use Rattle.std.specs.Prelude.{ℕ, Bool, cond, ◌&&◌, List, take, count_ones, sum_by, Float, Result, Ok, Err}
use Rattle.numbers.specs.Numbers.{numbered}
use Rattle.rules.specs.declared.Limits.{Limits}
use Rattle.rules.specs.Finite.{finite_limits}
use Rattle.charts.specs.declared.Chart.{Chart}
use Rattle.charts.specs.declared.Refusal.{Refusal}
use Rattle.charts.specs.declared.Refusal.TheVariants.{Overflow}
use Rattle.charts.specs.Records.{number}
use Rattle.evaluating.specs.declared.ChartLimits.{ChartLimits}
use Rattle.evaluating.specs.declared.factors.Factor.{Factor}
use Rattle.evaluating.specs.declared.factors.Factor.TheVariants as rows
use Rattle.evaluating.specs.declared.right.Held.{Held}
use Rattle.evaluating.specs.declared.series.Series.{Series}
use Rattle.evaluating.specs.declared.series.Series.TheVariants.{Main, Dispersion}
use Rattle.evaluating.specs.Asked.{Asked, asked}
use Rattle.evaluating.specs.Factors.{A2, D3, D4, D2, A3, B3, B4, C4}
use Rattle.evaluating.specs.Limits.{main_limits, dispersion_limits, limits_of}
use Rattle.evaluating.specs.Evaluating.{sound, refusals}

-- the number of a series
abbrev pub place_of : Series → ℕ
place_of Main = 0
place_of Dispersion = 1

-- what a chart beside its values is asked
abbrev pub asks : Held → Asked
asks h = asked h.chart h.values.now

-- the number of a factor's row
abbrev pub row_of : Factor → ℕ
row_of rows.A2 = A2
row_of rows.D3 = D3
row_of rows.D4 = D4
row_of rows.D2 = D2
row_of rows.A3 = A3
row_of rows.B3 = B3
row_of rows.B4 = B4
row_of rows.C4 = C4

-- the refusals ahead of the arithmetic: all but 7
abbrev pub ahead : Asked → Bool → Bool → Bool → List (Bool × ℕ)
ahead a wrong bad_width short = take 6 (refusals a wrong bad_width short)

-- the number of what the tests of them found
abbrev pub tested : Result (Unit {0}) Refusal → ℕ
tested = numbered number

-- limits that are finite, or 7
abbrev pub unless_overflow : Bool → Limits → Limits → Result ChartLimits Refusal
unless_overflow sound main dispersion = cond sound (Ok (record { main = main; dispersion = dispersion })) (Err Overflow)

-- the limits of a chart whose points and limits are finite
abbrev pub measured : Asked → Result ChartLimits Refusal
measured a = unless_overflow (sound a) (limits_of a 0) (limits_of a 1)

-- the limits from the means of both series
unfoldable pub limits_from : Chart → Float → Float → Result ChartLimits Refusal
limits_from c m d =
    unless_overflow (finite_limits (main_limits c m d) && finite_limits (dispersion_limits c d)) (main_limits c m d) (dispersion_limits c d)

-- the ones of all the numbers, as the code counts them
abbrev pub ones_in : List ℕ → ℕ
ones_in marks = sum_by count_ones marks
