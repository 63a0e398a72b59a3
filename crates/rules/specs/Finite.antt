-- Finite limits. Definitions only.
use Rattle.std.specs.Prelude.{Bool, ◌&&◌}
use Rattle.floats.specs.Finite.{finite}
use Rattle.rules.specs.declared.Limits.{Limits}

unfoldable pub finite_limits : Limits → Bool
finite_limits l = finite l.ucl && finite l.cl && finite l.lcl
