-- What the code's inner steps answer. A reader need not believe it: no contract of a public function cites it. Definitions only.
use Rattle.std.specs.Prelude.{Bool, cond, List, ℕ, Float}
use Rattle.points.specs.Points.{Plot}

-- the number of a call that came as far as 7
abbrev pub settled : Bool → ℕ
settled sound = cond sound 0 7

-- a chart's points, from the lists of values and sigmas
abbrev pub plot_by : Float → List Float → List Float → Plot
plot_by cl values sigmas = record { centre = cl; values = values; sigmas = sigmas }
