-- Evaluating the P and the U chart (02, R-2). Definitions only.
use Rattle.std.specs.Prelude.{ℕ, Bool, cond, not, ◌||◌, List, [], ◌∷◌, length, take, ◌==◌, slice_index, slice_index_or, Float, Result}
use Rattle.std.specs.Float.{nan, binary64}
use Rattle.std.specs.Float.Ieee.{div}
use Rattle.laws.specs.Bools.{every}
use Rattle.laws.specs.Lists.{tabulate}
use Rattle.laws.specs.Refusals.{first_of}
use Rattle.numbers.specs.Numbers.{answered}
use Rattle.floats.specs.Values.{plus_zero, whole}
use Rattle.root.specs.Root.{root_of}
use Rattle.arith.specs.Arith.{or_nan}
use Rattle.points.specs.Points.{Plot, sound}
use Rattle.attributes.specs.declared.Refusal.{Refusal}
use Rattle.attributes.specs.declared.Centre.{Centre}
use Rattle.attributes.specs.declared.Centre.TheVariants.{Computed, Given}
use Rattle.attributes.specs.declared.Chart.{Chart}
use Rattle.attributes.specs.Kinds.{Kind, total_of, proportions, rates}
use Rattle.attributes.specs.Records.{number, PChart, UChart, chart_wrong}

-- ---- the number and the centre that each answer stands for

abbrev pub evaluated : Result Float Refusal → ℕ × Float
evaluated = answered number (λ cl. cl) plus_zero

-- ---- 14: "and in evaluating a stored sample that 16 to 19 refuse"

-- a sample that none of its own refusals meets
abbrev pub right : List (Bool × ℕ) → Bool
right sample = first_of sample 0 == 0

unfoldable pub stored_right : {S : Type 0} → Kind S → ℕ → List ℕ → List S → Bool
stored_right k count counts sizes =
    every (tabulate (λ i. right (k.sample (slice_index counts i) (slice_index_or sizes i k.nothing))) count)

unfoldable pub wrong : {S : Type 0} → Kind S → Chart S → List ℕ → List S → Bool
wrong k c counts sizes = chart_wrong k c (length counts) (length sizes) || not (stored_right k c.count counts sizes)

abbrev pub wrong_p : PChart → List ℕ → List ℕ → Bool
wrong_p = wrong proportions

abbrev pub wrong_u : UChart → List ℕ → List Float → Bool
wrong_u = wrong rates

-- ---- the centre: "computed or a given"

unfoldable pub centre_of : Centre → Float → Float
centre_of Computed computed = computed
centre_of (Given x) computed = x

-- p-bar: "total_defectives as f64 / total_inspected as f64"; u-bar: the total of counts as an f64 over the units
unfoldable pub chart_centre : {S : Type 0} → Kind S → Chart S → List ℕ → List S → Float
chart_centre k c counts sizes = centre_of c.centre (div binary64 (whole (total_of (take c.count counts))) (k.total (take c.count sizes)))

abbrev pub centre_p : PChart → List ℕ → List ℕ → Float
centre_p = chart_centre proportions

abbrev pub centre_u : UChart → List ℕ → List Float → Float
centre_u = chart_centre rates

-- ---- the points of both: a value is a count over its sample's size, a sigma the root of a variance over it

abbrev pub values_of : List ℕ → List Float → List Float
values_of counts sizes = tabulate (λ i. div binary64 (whole (slice_index counts i)) (slice_index_or sizes i nan)) (length sizes)

-- a sigma is the root of a variance; where there is no root it is a NaN, so that it is not finite (7)
unfoldable pub sigma_of : Float → Float
sigma_of variance = or_nan (root_of variance)

abbrev pub sigmas_of : Float → List Float → List Float
sigmas_of variance sizes = tabulate (λ i. sigma_of (div binary64 variance (slice_index_or sizes i nan))) (length sizes)

abbrev pub plot_of : Float → Float → List ℕ → List Float → Plot
plot_of cl variance counts sizes = record { centre = cl; values = values_of counts sizes; sigmas = sigmas_of variance sizes }

unfoldable pub chart_plot : {S : Type 0} → Kind S → Chart S → List ℕ → List S → Plot
chart_plot k c counts sizes = plot_of (chart_centre k c counts sizes) (k.variance (chart_centre k c counts sizes)) counts (k.sizes c.count sizes)

abbrev pub plot_p : PChart → List ℕ → List ℕ → Plot
plot_p = chart_plot proportions

abbrev pub plot_u : UChart → List ℕ → List Float → Plot
plot_u = chart_plot rates

-- ---- "evaluating: 14, 8 for none, 6, then 7"; `wrong` says whether 14 applies, `short` whether 6 does

abbrev pub refusals : Bool → ℕ → Bool → Plot → List (Bool × ℕ)
refusals wrong count short g = (wrong, 14) ∷ ((count == 0), 8) ∷ (short, 6) ∷ (not (sound g), 7) ∷ []

-- the answer that goes with a number: the centre, and of a refusal zero
abbrev pub answer_for : ℕ → Float → ℕ × Float
answer_for n cl = cond (n == 0) (0, cl) (n, plus_zero)

unfoldable pub evaluate : {S : Type 0} → Kind S → Chart S → List ℕ → List S → Bool → ℕ × Float
evaluate k c counts sizes short =
    answer_for (first_of (refusals (wrong k c counts sizes) c.count short (chart_plot k c counts sizes)) 0) (chart_centre k c counts sizes)

abbrev pub evaluate_p : PChart → List ℕ → List ℕ → Bool → ℕ × Float
evaluate_p = evaluate proportions

abbrev pub evaluate_u : UChart → List ℕ → List Float → Bool → ℕ × Float
evaluate_u = evaluate rates
