-- Plotting: the number that it answers (02, R-2: "6, then 7"). Definitions only.
use Rattle.std.specs.Prelude.{Bool, false, not, ◌||◌, ℕ, ltb, Float, take, Result}
use mathlib.Core.List.{List, [], ◌∷◌, foldl}
use Rattle.laws.specs.Refusals.{first_of}
use Rattle.numbers.specs.Numbers.{numbered}
use Rattle.points.specs.declared.Refusal.{Refusal}
use Rattle.points.specs.declared.Refusal.TheVariants.{TooShort, Overflow}
use Rattle.points.specs.Points.{Plot, sound}

-- the number of each refusal, and of the answer
abbrev pub number : Refusal → ℕ
number TooShort = 6
number Overflow = 7

abbrev pub plotted : Result (Unit {0}) Refusal → ℕ
plotted = numbered number

-- 6: a lent slice is shorter than needed
abbrev pub any_shorter : ℕ → List ℕ → Bool
any_shorter n lengths = foldl (λ t l. t || ltb l n) false lengths

-- the plot of n points about a centre whose values and sigmas stand at the front of two slices
abbrev pub plot_from : Float → ℕ → List Float → List Float → Plot
plot_from cl n values sigmas = record { centre = cl; values = take n values; sigmas = take n sigmas }

-- 6 where a slice is too short for the points, and 7
unfoldable pub plot_number : Bool → Plot → ℕ
plot_number short g = first_of ((short, 6) ∷ (not (sound g), 7) ∷ []) 0
