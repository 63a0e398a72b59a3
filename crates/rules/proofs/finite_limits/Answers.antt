-- `rules::finite_limits` meets its contract, by what `is_finite` says of each. Assumes nothing.
use mathlib.Core.Path.{refl}
use Rattle.rules.specs.Finite.{finite_limits}
use Rattle.rules.proofs.finite_limits.Goals as goal

pub returns : goal.returns
unfolding finite_limits
returns c =
    rw (c.is_finite.ensures, c.is_finite-2.ensures, c.is_finite-3.ensures) refl
