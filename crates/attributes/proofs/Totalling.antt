-- The total of counts, and that it is exact as an f64. Assumes nothing.
use Rattle.std.specs.Prelude.{sum}
use Rattle.std.specs.List.{fold}
use Rattle.std.proofs.Common.{◌∙◌, ◌≡◌, ℕ, suc, ◌+◌, ◌*◌, ◌≤◌, false, List, [], ◌∷◌, length, take, arith, length-take-le}
use lib.Ieee.{binary64, of_int}
use lib.Ieee.Exact.{HasValue}
use lib.Ieee.Back.{round_whole}
use Rattle.floats.specs.Values.{whole}
use Rattle.attributes.specs.Kinds.{total_of}
use Rattle.attributes.specs.Steps.{Small}

-- the total is std's sum
total-from : (t : ℕ) (counts : List ℕ) → fold (λ (a x : ℕ). a + x) t counts ≡ t + total_of counts
unfolding total_of
total-from t [] = omega arith
total-from t (n ∷ ns) = total-from (t + n) ns ∙ omega arith

pub total-sum : (counts : List ℕ) → sum counts ≡ total_of counts
total-sum counts = total-from 0 counts ∙ omega arith

-- a front of small counts, as it is lent
pub small-part : (n : ℕ) (l : List ℕ) → n ≤ 4096 → n ≤ length l → Small (take n l) → (length (take n l) ≤ 4096) × Small (take n l)
small-part n l h k s = (omega (arith, length-take-le n l k), s)

-- ---- "Counts are at most 4,294,967,295, so totals are exact as f64."

pub total-most : (counts : List ℕ) → Small counts → total_of counts ≤ 4294967295 * length counts
unfolding total_of
total-most [] small = omega arith
total-most (n ∷ ns) small =
    omega (arith, small 0 (omega arith), total-most ns (λ i h. small (suc i) (omega arith)))

-- the f64 of a number is that number
abbrev pub Exact : ℕ → Type 0
Exact n = HasValue (whole n) false n 1

-- so it is with the total of at most 4,096 such counts
pub total-exact : (counts : List ℕ) → length counts ≤ 4096 → Small counts → Exact (total_of counts)
unfolding of_int
total-exact counts few small =
    round_whole binary64 false (total_of counts) (omega (arith, total-most counts small))
