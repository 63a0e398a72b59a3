-- `point::is_finite` meets its contract: the three are asked one by one. Assumes nothing.
use mathlib.Core.Path.{ap₂}
use mathlib.Core.Bool.{◌&&◌}
use Rattle.points.proofs.point.is_finite.Goals as goal

pub returns : goal.returns
returns c =
    ap₂ ◌&&◌ (ap₂ ◌&&◌ c.is_finite.ensures c.is_finite-2.ensures) c.is_finite-3.ensures
