-- 01 of the zone widths: "With finite limits these may be infinite, never NaN". So it is of the widths and of all lines, in every width mode.
-- And where the limits are as far from the centre line above as below, every mode gives the same lines. Assumes nothing.
use mathlib.Core.Path.{◌≡◌, refl, ap}
use mathlib.Core.Bool.{Bool, true, false, ◌&&◌, cond}
use Prim.Native.Nat.{ℕ}
use lib.Dec.{eqb}
use lib.Ieee.{Float, is_nan, sub, binary64}
use Rattle.laws.proofs.Bools.{both}
use Rattle.floats.specs.Finite.{finite}
use Rattle.floats.proofs.Operations.{add-no-nan, sub-no-nan, mul-no-nan, div-no-nan, finite-no-nan}
use Rattle.rules.specs.declared.Limits.{Limits}
use Rattle.rules.specs.declared.Lines.{Lines}
use Rattle.rules.specs.Finite.{finite_limits}
use Rattle.rules.specs.Lines.{one_sigma, two_sigma, widths_by, upward, downward, lines_by, lines_of}

pub record NoNan (l : Lines) : Type 0 where
  pub ucl : is_nan l.ucl ≡ false
  pub cl : is_nan l.cl ≡ false
  pub lcl : is_nan l.lcl ≡ false
  pub above1 : is_nan l.above1 ≡ false
  pub below1 : is_nan l.below1 ≡ false
  pub above2 : is_nan l.above2 ≡ false
  pub below2 : is_nan l.below2 ≡ false

-- the widths of a side, of a distance that is no NaN
module _ (d : Float) (some : is_nan d ≡ false) where
  pub one-sigma : is_nan (one_sigma d) ≡ false
  unfolding one_sigma
  one-sigma = div-no-nan binary64 d _ 3 _ refl some

  pub two-sigma : is_nan (two_sigma d) ≡ false
  unfolding two_sigma
  two-sigma = mul-no-nan binary64 _ 1 _ (one_sigma d) refl one-sigma

module _ (width : ℕ) (l : Limits) (sound : finite_limits l ≡ true) where
  parts : (finite l.ucl ≡ true) × (finite l.cl ≡ true) × (finite l.lcl ≡ true)
  unfolding finite_limits
  parts =
      let two = both (finite l.ucl && finite l.cl) (finite l.lcl) sound in
      let one = both (finite l.ucl) (finite l.cl) two.0 in
      (one.0, one.1, two.1)

  pub up : is_nan (upward l) ≡ false
  up = sub-no-nan binary64 l.ucl l.cl parts.0 (finite-no-nan l.cl parts.1)

  pub down : is_nan (downward width l) ≡ false
  down = by (eqb width 1)
    where
      by : (b : Bool) → is_nan (cond b (sub binary64 l.cl l.lcl) (upward l)) ≡ false
      by true = sub-no-nan binary64 l.cl l.lcl parts.1 (finite-no-nan l.lcl parts.2)
      by false = up

  pub lines : NoNan (lines_of width l)
  unfolding lines_of
  lines =
      let centre = parts.1 in
      record {
        ucl = finite-no-nan l.ucl parts.0;
        cl = finite-no-nan l.cl centre;
        lcl = finite-no-nan l.lcl parts.2;
        above1 = add-no-nan binary64 l.cl (one_sigma (upward l)) centre (one-sigma (upward l) up);
        below1 = sub-no-nan binary64 l.cl (one_sigma (downward width l)) centre (one-sigma (downward width l) down);
        above2 = add-no-nan binary64 l.cl (two_sigma (upward l)) centre (two-sigma (upward l) up);
        below2 = sub-no-nan binary64 l.cl (two_sigma (downward width l)) centre (two-sigma (downward width l) down);
      }

-- ---- limits symmetric to the bit

pub modes-agree : (l : Limits) → sub binary64 l.cl l.lcl ≡ upward l → (width : ℕ) → lines_of width l ≡ lines_of 0 l
unfolding lines_of
modes-agree l symmetric width = ap (λ (d : Float). lines_by l (widths_by (upward l) d)) (by (eqb width 1))
  where
    by : (b : Bool) → cond b (sub binary64 l.cl l.lcl) (upward l) ≡ upward l
    by true = symmetric
    by false = refl
