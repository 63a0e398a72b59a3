-- Finite values. Definitions only.
use Rattle.std.specs.Prelude.{Bool, true, false, List, map, Float}
use Rattle.std.specs.Float.{nan, inf, fin}
use Rattle.laws.specs.Bools.{every}

-- neither a NaN nor an infinity
unfoldable pub finite : Float → Bool
finite nan = false
finite (inf s) = false
finite (fin s m e) = true

unfoldable pub all_finite : List Float → Bool
all_finite values = every (map finite values)
