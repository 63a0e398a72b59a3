-- The one sheet of a rule set and of marks, one number a point (01, 'The mark sheet', first paragraph). Definitions only.
use Rattle.std.specs.Prelude.{true, false, not, List, [], ◌∷◌, ◌++◌, map, ℕ, suc, eqb, length}
use Rattle.laws.specs.Bools.{count}
use Rattle.groups.specs.Groups.{groups}

-- how many points are marked
unfoldable pub marked : List ℕ → ℕ
marked ms = count (map (λ m. not (eqb m 0)) ms)

-- For each marked point in rising order: the count of unmarked points skipped since the last marked one, or since the start, and its
-- marks. The first number is how many were skipped before the marks that are left.
unfoldable pub entries_of : ℕ → List ℕ → List ℕ
entries_of skipped [] = []
entries_of skipped (m ∷ ms) = elim (eqb m 0) [ true ↦ entries_of (suc skipped) ms | false ↦ groups skipped ++ (groups m ++ entries_of 0 ms) ]

-- number of points, rule set, number of marked points, and the marked points
unfoldable pub sheet_of : ℕ → List ℕ → List ℕ
sheet_of set ms = groups (length ms) ++ (groups set ++ (groups (marked ms) ++ entries_of 0 ms))
