-- The largest and the smallest by what the code calls: `reduce`, and one fold for both. Assumes nothing.
use Rattle.std.proofs.Common.{◌≡◌, List, [], ◌∷◌, refl}
use mathlib.Core.List.{foldl}
use Rattle.std.specs.List.{fold, reduce}
use Rattle.std.specs.Option.{unwrap_or}
use lib.Ieee.{Float, nan}
use lib.ListN.{get_or, drop}
use Rattle.arith.specs.Arith.{larger, smaller}

-- the first, replaced by turns; of none, a NaN
pub from-first : (rule : Float → Float → Float) (l : List Float) → unwrap_or (reduce rule l) nan ≡ foldl rule (get_or l 0 nan) (drop 1 l)
from-first rule [] = refl
from-first rule (x ∷ l) = refl

-- a turn of the fold that finds both
abbrev pub wider : Float × Float → Float → Float × Float
wider p v = (larger p.0 v, smaller p.1 v)

pub wider-fold : (hi lo : Float) (l : List Float) → fold wider (hi, lo) l ≡ (foldl larger hi l, foldl smaller lo l)
wider-fold hi lo [] = refl
wider-fold hi lo (v ∷ l) = wider-fold (larger hi v) (smaller lo v) l
