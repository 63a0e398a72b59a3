-- The charts' arithmetic, each operation rounded to an f64 (01, 'The charts', the first four points of its list). Definitions only.
use Rattle.std.specs.Prelude.{◌-◌, false, cond, List, length, drop, slice_index_or, Float, Result, Ok, Err}
use mathlib.Core.List.{foldl}
use Rattle.std.specs.Float.{nan, inf, fin, binary64}
use Rattle.std.specs.Float.Ieee.{add, sub, mul, div, lt}
use Rattle.floats.specs.Values.{plus_zero, whole}
use Rattle.root.specs.declared.NoRoot.{NoRoot}
use Rattle.root.specs.Root.{root_of}

-- ---- "Mean: sum from +0.0, left to right, divided by the count."

abbrev pub sum_of : List Float → Float
sum_of l = foldl (λ t v. add binary64 t v) plus_zero l

unfoldable pub mean_of : List Float → Float
mean_of l = div binary64 (sum_of l) (whole (length l))

-- ---- "Largest and smallest: start with the first, replace only by a strictly larger or smaller one. Range: largest minus smallest."

abbrev pub larger : Float → Float → Float
larger t v = cond (lt t v) v t

abbrev pub smaller : Float → Float → Float
smaller t v = cond (lt v t) v t

abbrev pub largest_of : List Float → Float
largest_of l = foldl larger (slice_index_or l 0 nan) (drop 1 l)

abbrev pub smallest_of : List Float → Float
smallest_of l = foldl smaller (slice_index_or l 0 nan) (drop 1 l)

unfoldable pub range_of : List Float → Float
range_of l = sub binary64 (largest_of l) (smallest_of l)

-- ---- "Deviation: sum of (v - mean) * (v - mean) from +0.0, left to right, divided by n - 1, then the root."

abbrev pub square_added : Float → Float → Float → Float
square_added mean t v = add binary64 t (mul binary64 (sub binary64 v mean) (sub binary64 v mean))

abbrev pub squares_of : Float → List Float → Float
squares_of mean l = foldl (square_added mean) plus_zero l

-- the root of what is not finite is refused: it is then a NaN, so that the point is not finite (7)
unfoldable pub or_nan : Result Float NoRoot → Float
or_nan (Ok r) = r
or_nan (Err why) = nan

unfoldable pub deviation_of : List Float → Float
deviation_of l = or_nan (root_of (div binary64 (squares_of (mean_of l) l) (whole (length l - 1))))

-- ---- "Moving range: the difference, later minus earlier, with its sign bit cleared."

unfoldable pub sign_cleared : Float → Float
sign_cleared nan = nan
sign_cleared (inf s) = inf false
sign_cleared (fin s m e) = fin false m e

unfoldable pub moving_of : Float → Float → Float
moving_of earlier later = sign_cleared (sub binary64 later earlier)
