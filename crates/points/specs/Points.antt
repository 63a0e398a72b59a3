-- A point about a centre, and the points of a chart (02, R-2: "limits per point, `out_of_control` and z"; `attribute_point` and `standardized`
-- of the source). Definitions only.
use Rattle.std.specs.Prelude.{Bool, cond, ◌&&◌, ◌||◌, List, ℕ, Float, length, get_or}
use Rattle.std.specs.Float.{nan, binary64}
use Rattle.std.specs.Float.Ieee.{add, sub, mul, div, lt}
use Rattle.laws.specs.Lists.{tabulate}
use Rattle.floats.specs.Finite.{finite, all_finite}
use Rattle.floats.specs.Values.{plus_zero, decimal}

-- ---- one point, from its value, the centre and its own sigma

-- "cl + 3.0 * sigma"
unfoldable pub upper_of : Float → Float → Float
upper_of cl sigma = add binary64 cl (mul binary64 (decimal 1 30) sigma)

-- "cl - 3.0 * sigma"; "The lower limit is +0.0 unless the computed one is above zero."
abbrev pub or_zero : Float → Float
or_zero computed = cond (lt plus_zero computed) computed plus_zero

unfoldable pub lower_of : Float → Float → Float
lower_of cl sigma = or_zero (sub binary64 cl (mul binary64 (decimal 1 30) sigma))

-- "value > ucl || value < lcl"
abbrev pub beyond : Float → Float → Float → Bool
beyond value ucl lcl = lt ucl value || lt value lcl

-- "z is missing exactly where sigma isn't above zero"
abbrev pub has_z : Float → Bool
has_z sigma = lt plus_zero sigma

-- "(value - cl) / sigma"; a missing one stands as +0.0
abbrev pub z_of : Float → Float → Float → Float
z_of value cl sigma = cond (has_z sigma) (div binary64 (sub binary64 value cl) sigma) plus_zero

pub record Point : Type 0 where
  pub value : Float
  pub ucl : Float
  pub lcl : Float
  pub out_of_control : Bool
  pub z : Float
  pub has_z : Bool

abbrev pub point_about : Float → Float → Float → Point
point_about value cl sigma = record {
  value = value;
  ucl = upper_of cl sigma;
  lcl = lower_of cl sigma;
  out_of_control = beyond value (upper_of cl sigma) (lower_of cl sigma);
  z = z_of value cl sigma;
  has_z = has_z sigma;
}

-- ---- the points of a chart: its centre, and each point's value and own sigma

pub record Plot : Type 0 where
  pub centre : Float
  pub values : List Float
  pub sigmas : List Float

abbrev pub point_at : Plot → ℕ → Point
point_at g i = point_about (get_or g.values i nan) g.centre (get_or g.sigmas i nan)

-- one thing of each point
abbrev pub column : {A : Type 0} → (Point → A) → Plot → List A
column f g = tabulate (λ i. f (point_at g i)) (length g.values)

abbrev pub uppers : Plot → List Float
uppers g = column (λ p. p.ucl) g

abbrev pub lowers : Plot → List Float
lowers g = column (λ p. p.lcl) g

abbrev pub outs : Plot → List Bool
outs g = column (λ p. p.out_of_control) g

abbrev pub zs : Plot → List Float
zs g = column (λ p. p.z) g

abbrev pub has_zs : Plot → List Bool
has_zs g = column (λ p. p.has_z) g

-- not 7: "where the centre, a value, sigma or a limit isn't finite"
unfoldable pub sound : Plot → Bool
sound g = finite g.centre && all_finite g.values && all_finite g.sigmas && all_finite (uppers g) && all_finite (lowers g)
