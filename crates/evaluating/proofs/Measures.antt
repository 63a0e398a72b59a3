-- What is measured of a chart: the series at the front of their slices, and the limits by their means. Assumes nothing.
use Rattle.std.proofs.Common.{◌≡◌, ℕ, Bool, true, false, ◌&&◌, List, take, sym, refl, ap, ◌∙◌, ap₂, take_at}
use Rattle.std.specs.Prelude.{Ok, Err}
use lib.Ieee.{Float}
use Rattle.laws.specs.Lists.{tabulate}
use Rattle.laws.specs.Front.{at_front}
use Rattle.laws.proofs.Bools.{both}
use Rattle.laws.proofs.Lists.{length-tabulate}
use Rattle.floats.specs.Finite.{finite, all_finite}
use Rattle.rules.specs.declared.Limits.{Limits}
use Rattle.rules.specs.Finite.{finite_limits}
use Rattle.arith.specs.Arith.{mean_of}
use Rattle.arith.proofs.Means.{finite-mean}
use Rattle.charts.specs.declared.Refusal.{Refusal}
use Rattle.charts.specs.declared.Refusal.TheVariants.{Overflow}
use Rattle.evaluating.specs.declared.ChartLimits.{ChartLimits}
use Rattle.evaluating.specs.Asked.{Asked, interrupted, in_mode}
use Rattle.evaluating.specs.Series.{by_series, point_at, points_in, series_of}
use Rattle.evaluating.specs.Limits.{main_limits, dispersion_limits, centre_of, limits_of}
use Rattle.evaluating.specs.Evaluating.{sound}
use Rattle.evaluating.specs.Steps.{unless_overflow, limits_from, measured}

-- ---- a series at the front of its slice

pub front-series : (a : Asked) (s n : ℕ) (old now : List Float) → n ≡ points_in a.chart s
    → now ≡ at_front (series_of a s) old → take n now ≡ series_of a s
unfolding series_of
front-series a s n old now e f =
    ap₂ (λ (k : ℕ) (l : List Float). take k l) e f
    ∙ take_at (tabulate (point_at a s) (points_in a.chart s)) _ (points_in a.chart s) (length-tabulate (point_at a s) (points_in a.chart s))

-- ---- finite limits are those of finite points

finite-centre : (l : Limits) → finite_limits l ≡ true → finite l.cl ≡ true
unfolding finite_limits
finite-centre l h = (both (finite l.ucl) (finite l.cl) (both (finite l.ucl && finite l.cl) (finite l.lcl) h).0).1

-- what follows from both need not be asked
pub implied : (p q r s : Bool) → (r ≡ true → p ≡ true) → (s ≡ true → q ≡ true) → (p && q && (r && s)) ≡ (r && s)
implied p q true true f g = ap₂ (λ (x y : Bool). x && y && true) (f refl) (g refl)
implied true true true false f g = refl
implied true false true false f g = refl
implied false q true false f g = refl
implied true true false s f g = refl
implied true false false s f g = refl
implied false q false s f g = refl

-- ---- the limits, by the means of both series

module _ (a : Asked) where
  sound-limits : sound a ≡ (finite_limits (limits_of a 0) && finite_limits (limits_of a 1))
  unfolding sound limits_of by_series main_limits dispersion_limits centre_of
  sound-limits =
      implied (all_finite (series_of a 0)) (all_finite (series_of a 1)) (finite_limits (limits_of a 0)) (finite_limits (limits_of a 1))
      (λ h. finite-mean (series_of a 0) (finite-centre (limits_of a 0) h))
      (λ h. finite-mean (series_of a 1) (finite-centre (limits_of a 1) h))

  from-centres : limits_from a.chart (centre_of a 0) (centre_of a 1) ≡ measured a
  unfolding limits_from limits_of by_series
  from-centres = ap (λ (b : Bool). unless_overflow b (limits_of a 0) (limits_of a 1)) (sym sound-limits)

  pub from-series : {main dispersion : List Float} → main ≡ series_of a 0 → dispersion ≡ series_of a 1
      → limits_from a.chart (mean_of main) (mean_of dispersion) ≡ measured a
  unfolding centre_of
  from-series m d = ap₂ (λ (l k : List Float). limits_from a.chart (mean_of l) (mean_of k)) m d ∙ from-centres

-- ---- what measured limits tell, and what none do

was-wild : (b : Bool) (main dispersion : Limits) {why : Refusal} → Err why ≡ unless_overflow b main dispersion → (b ≡ false) × (why ≡ Overflow)
was-wild true main dispersion e = absurd cc
was-wild false main dispersion e = (refl, cc)

was-sound : (b : Bool) (main dispersion : Limits) {l : ChartLimits} → Ok l ≡ unless_overflow b main dispersion
    → (b ≡ true) × (l ≡ record { main = main; dispersion = dispersion })
was-sound true main dispersion e = (refl, cc)
was-sound false main dispersion e = absurd cc

module _ (a : Asked) where
  pub wild : {why : Refusal} → Err why ≡ measured a → (sound a ≡ false) × (why ≡ Overflow)
  wild e = was-wild (sound a) (limits_of a 0) (limits_of a 1) e

  pub right : {l : ChartLimits} → Ok l ≡ measured a → (sound a ≡ true) × (l ≡ record { main = limits_of a 0; dispersion = limits_of a 1 })
  right e = was-sound (sound a) (limits_of a 0) (limits_of a 1) e

-- ---- stops and the width mode change neither the series nor what is measured of them: a moving range that straddles a stop counts towards
-- the limits

module _ (a : Asked) (positions : List ℕ) (width : ℕ) where
  pub same-series : (s : ℕ) → series_of (in_mode (interrupted a positions) width) s ≡ series_of a s
  unfolding series_of point_at
  same-series s = refl

  pub same-measures : measured (in_mode (interrupted a positions) width) ≡ measured a
  unfolding sound limits_of by_series centre_of series_of point_at
  same-measures = refl
