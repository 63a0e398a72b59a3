-- What of a chart is its kind's own: P, whose sizes are parcels inspected, and U, whose sizes are units (02, R-2). Definitions only.
use Rattle.std.specs.Prelude.{ℕ, ◌+◌, Bool, true, not, ◌&&◌, ◌||◌, List, [], ◌∷◌, ◌==◌, nat_lt, take, slice_index, Float}
use Rattle.std.specs.Float.{nan, binary64}
use Rattle.std.specs.Float.Ieee.{lt, sub, mul}
use Rattle.laws.specs.Lists.{tabulate}
use Rattle.floats.specs.Finite.{finite}
use Rattle.floats.specs.Values.{plus_zero, whole, decimal}
use Rattle.arith.specs.Arith.{sum_of}

-- of a chart whose samples have sizes S
pub record Kind (S : Type 0) : Type 0 where
  -- "20 centre not allowed"
  pub allowed : Float → Bool
  -- what a sample is refused for, by how many are damaged and by its size
  pub sample : ℕ → S → List (Bool × ℕ)
  -- what stands where no size does, and whether a size is one of a sample
  pub nothing : S
  pub small : S → Bool
  -- the first so many sizes as f64s, and all of them together
  pub sizes : ℕ → List S → List Float
  pub total : List S → Float
  -- a point's variance times its size, by the centre
  pub variance : Float → Float

-- ---- centres

-- "finite and strictly inside (0, 1)" (`check_proportion_standard`)
abbrev pub proportion_allowed : Float → Bool
proportion_allowed p = finite p && lt plus_zero p && lt p (decimal 1 10)

-- "finite and strictly positive" (`check_rate_standard`)
abbrev pub rate_allowed : Float → Bool
rate_allowed u = finite u && lt plus_zero u

-- ---- a sample: "16 count too large, 17 no sample size, 18 more damaged than inspected, 19 units not finite and above zero"

-- "Counts are at most 4,294,967,295"
abbrev pub too_large : ℕ → Bool
too_large count = nat_lt 4294967295 count

abbrev pub sample_p : ℕ → ℕ → List (Bool × ℕ)
sample_p damaged inspected = (too_large damaged || too_large inspected, 16) ∷ ((inspected == 0), 17) ∷ (nat_lt inspected damaged, 18) ∷ []

abbrev pub sample_u : ℕ → Float → List (Bool × ℕ)
sample_u damaged units = (too_large damaged, 16) ∷ (not (rate_allowed units), 19) ∷ []

-- ---- totals, sizes as f64s, and variances

unfoldable pub total_of : List ℕ → ℕ
total_of [] = 0
total_of (n ∷ ns) = n + total_of ns

-- P: "p_bar * (1.0 - p_bar)" over the parcels inspected
abbrev pub variance_p : Float → Float
variance_p cl = mul binary64 cl (sub binary64 (decimal 1 10) cl)

abbrev pub sizes_p : ℕ → List ℕ → List Float
sizes_p count sizes = tabulate (λ i. whole (slice_index sizes i)) count

-- ---- the two kinds

-- P
abbrev pub proportions : Kind ℕ
proportions = record {
  allowed = proportion_allowed;
  sample = sample_p;
  nothing = 0;
  small = λ n. not (too_large n);
  sizes = sizes_p;
  total = λ sizes. whole (total_of sizes);
  variance = variance_p;
}

-- U: its variance is "u_bar" over the units, which are f64s as they are; "the sum of units left to right from +0.0"
abbrev pub rates : Kind Float
rates = record {
  allowed = rate_allowed;
  sample = sample_u;
  nothing = nan;
  small = λ u. true;
  sizes = take;
  total = sum_of;
  variance = λ cl. cl;
}
