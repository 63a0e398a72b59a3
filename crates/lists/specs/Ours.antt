-- Numbers as a list has them, in groups of seven one after another. Definitions only.
use Rattle.std.specs.Prelude.{Bool, List, [], ◌∷◌, ◌++◌, map, ℕ, eqb, Float, drop}
use Rattle.std.specs.Float.{binary64}
use Rattle.std.specs.Float.Ieee.{to_bits}
use Rattle.std.specs.List.{list_all}
use Rattle.groups.specs.Groups.{groups}

-- "An f64 stands as its bits"
abbrev pub all_bits : List Float → List ℕ
all_bits xs = map (to_bits binary64) xs

-- "A list is a row of numbers", each "in groups of seven bits"
unfoldable pub in_groups : List ℕ → List ℕ
in_groups [] = []
in_groups (x ∷ xs) = groups x ++ in_groups xs

-- all entries from a place on are this one
unfoldable pub all_are : List ℕ → ℕ → ℕ → Bool
all_are xs from x = list_all (λ y. eqb y x) (drop from xs)
