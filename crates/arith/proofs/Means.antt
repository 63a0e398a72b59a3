-- A finite mean is one of finite values. Assumes nothing.
use Rattle.std.proofs.Common.{◌≡◌, true, ◌&&◌, List, [], ◌∷◌, refl, ap₂}
use mathlib.Core.List.{foldl}
use lib.Ieee.{Float, binary64, add}
use Rattle.floats.specs.Finite.{finite, all_finite}
use Rattle.floats.specs.Values.{plus_zero}
use Rattle.floats.proofs.Infinite.{finite-sum, finite-quotient}
use Rattle.laws.specs.Bools.{every}
use Rattle.arith.specs.Arith.{sum_of, mean_of}

finite-fold : (t : Float) (l : List Float) → finite (foldl (λ t v. add binary64 t v) t l) ≡ true → (finite t ≡ true) × (all_finite l ≡ true)
unfolding all_finite every
finite-fold t [] h = (h, refl)
finite-fold t (v ∷ l) h =
    let rest = finite-fold (add binary64 t v) l h in
    let here = finite-sum binary64 t v rest.0 in
    (here.0, ap₂ ◌&&◌ here.1 rest.1)

pub finite-mean : (l : List Float) → finite (mean_of l) ≡ true → all_finite l ≡ true
unfolding mean_of
finite-mean l h = (finite-fold plus_zero l (finite-quotient binary64 (sum_of l) _ h)).1
