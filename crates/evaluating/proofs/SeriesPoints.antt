-- A point of a series: how far it reaches into the values, and its case. Assumes nothing.
use Rattle.std.proofs.Common.{◌≡◌, ℕ, suc, ◌+◌, ◌-◌, ◌*◌, ◌<◌, ◌≤◌, Bool, true, false, cond, eqb, length, refl, ◌∙◌, ap₂, le_trans, mul-le-mul_right, suc-mul, mul-le-mul_left, mul-one, arith, ne_eqb}
use native.Mathlib.Decide.{ℕ_discrete}
use Rattle.laws.proofs.Lists.{length-tabulate}
use Rattle.stops.specs.Stops.{main_points}
use Rattle.charts.specs.declared.Chart.{Chart}
use Rattle.charts.specs.Records.{by_kind, record_wrong}
use Rattle.charts.proofs.Cases.{kind_1, subgroups}
use Rattle.charts.proofs.Held.{held}
use Rattle.evaluating.specs.Asked.{Asked}
use Rattle.evaluating.specs.Series.{by_series, point_at, points_in, series_of, moving_in}

-- ---- how many points

pub points-main : (c : Chart) → points_in c 0 ≡ c.count
unfolding points_in by_series
points-main c = refl

module _ (c : Chart) (s : ℕ) (other : s ≡ 0 → ⊥) where
  of-dispersion : points_in c s ≡ by_kind c.kind (c.count - 1) c.count c.count
  unfolding points_in by_series
  of-dispersion = rw (ne_eqb s 0 other)

  pub points-subgroups : (c.kind ≡ 1 → ⊥) → points_in c s ≡ c.count
  points-subgroups ne = of-dispersion ∙ subgroups c.kind (c.count - 1) c.count ne

  pub points-moving : c.kind ≡ 1 → points_in c s ≡ c.count - 1
  points-moving e = of-dispersion ∙ kind_1 c.kind (c.count - 1) c.count c.count e

pub points-most : (c : Chart) (s : ℕ) → points_in c s ≤ c.count
points-most c s = by (ℕ_discrete s 0) (ℕ_discrete c.kind 1)
  where
    by : Dec (s ≡ 0) → Dec (c.kind ≡ 1) → points_in c s ≤ c.count
    by (yes z) d = rw z (omega (arith, points-main c))
    by (no z) (no ne) = omega (arith, points-subgroups c s z ne)
    by (no z) (yes e) = omega (arith, points-moving c s z e)

-- ---- which series is that of the moving ranges

pub moving-main : (c : Chart) → false ≡ moving_in c 0
unfolding moving_in by_series
moving-main c = refl

pub moving-is : (c : Chart) → eqb c.kind 1 ≡ moving_in c 1
unfolding moving_in by_series by_kind
moving-is c = by (eqb c.kind 1) (eqb c.kind 2)
  where
    by : (b d : Bool) → b ≡ cond b true (cond d false false)
    by true d = refl
    by false true = refl
    by false false = refl

-- the main series has a point more, and else as many
pub main-points : (c : Chart) (s : ℕ) → 1 ≤ c.count → main_points (moving_in c s) (points_in c s) ≡ points_in c 0
unfolding moving_in by_series points_in
main-points c s some = by (eqb s 0)
  where
    by : (b : Bool)
        → main_points (cond b false (by_kind c.kind true false false)) (cond b c.count (by_kind c.kind (c.count - 1) c.count c.count)) ≡ c.count
    by true = refl
    by false = of (ℕ_discrete c.kind 1)
      where
        of : Dec (c.kind ≡ 1) → main_points (by_kind c.kind true false false) (by_kind c.kind (c.count - 1) c.count c.count) ≡ c.count
        of (yes e) =
            let one : suc (c.count - 1) ≡ c.count = omega arith in
            ap₂ main_points (kind_1 c.kind true false false e) (kind_1 c.kind (c.count - 1) c.count c.count e) ∙ one
        of (no ne) = ap₂ main_points (subgroups c.kind true false ne) (subgroups c.kind (c.count - 1) c.count ne)

-- ---- the series

pub length-series : (a : Asked) (s : ℕ) → length (series_of a s) ≡ points_in a.chart s
unfolding series_of
length-series a s = length-tabulate (point_at a s) (points_in a.chart s)

-- ---- reach

-- of an observation
pub main-reach : (c : Chart) (room i : ℕ) → record_wrong c room ≡ false → i < points_in c 0 → i < room
main-reach c room i right h =
    let all = held c room right in
    let values = mul-le-mul_left c.count all.figures.some in
    omega (arith, mul-one c.count, all.within, points-main c)

-- of an observation and the next
pub moving-reach : (c : Chart) (room i : ℕ) → record_wrong c room ≡ false → i < points_in c 1 → c.kind ≡ 1 → i + 1 < room
moving-reach c room i right h e =
    let all = held c room right in
    let values = mul-le-mul_left c.count all.figures.some in
    omega (arith, mul-one c.count, all.within, points-moving c 1 (λ z. omega arith) e)

-- of a sample
pub record Reach (c : Chart) (room i : ℕ) : Type 0 where
  pub most : c.size ≤ 25
  pub sample : i * c.size + c.size ≤ room

pub reach : (c : Chart) (s room i : ℕ) → record_wrong c room ≡ false → i < points_in c s → Reach c room i
reach c s room i right h =
    let all = held c room right in
    let before : suc i ≤ c.count = omega (arith, points-most c s) in
    let ends : suc i * c.size ≤ room = le_trans (mul-le-mul_right c.size before) all.within in
    record { most = all.figures.most; sample = omega (arith, suc-mul i c.size) }
