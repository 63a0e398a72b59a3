-- Finite or not, one value after the other. Assumes nothing.
use mathlib.Core.Path.{◌≡◌, sym, ◌∙◌}
use mathlib.Core.Bool.{Bool, true, ◌&&◌, and-true, and_assoc}
use mathlib.Core.List.{List, [], ◌∷◌}
use Prim.Native.Nat.{ℕ, zero, suc, ◌<◌}
use native.Mathlib.Nat.{le_of_suc-le-suc}
use native.Mathlib.Omega.{arith}
use Rattle.std.specs.List.{fold}
use lib.Ieee.{Float, nan}
use lib.ListN.{length, get_or}
use Rattle.laws.specs.Bools.{every}
use Rattle.laws.proofs.Bools.{both}
use Rattle.floats.specs.Finite.{finite, all_finite}

-- one value after the other, from the first
pub all_finite-fold : (seen : Bool) (values : List Float) → fold (λ (all : Bool) (v : Float). all && finite v) seen values ≡ (seen && all_finite values)
unfolding all_finite every
all_finite-fold seen [] = sym (and-true seen)
all_finite-fold seen (v ∷ values) = all_finite-fold (seen && finite v) values ∙ and_assoc seen (finite v) (all_finite values)

-- each of finite values is finite
pub finite-at : (values : List Float) → all_finite values ≡ true → (i : ℕ) → i < length values → finite (get_or values i nan) ≡ true
unfolding all_finite every
finite-at [] e i h = absurd (omega arith)
finite-at (v ∷ values) e zero h = (both (finite v) (all_finite values) e).0
finite-at (v ∷ values) e (suc i) h = finite-at values (both (finite v) (all_finite values) e).1 i (le_of_suc-le-suc h)
