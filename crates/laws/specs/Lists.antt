-- Lists made entry by entry. Definitions only.
use Rattle.std.specs.Prelude.{List, [], ◌∷◌, ℕ, zero, suc}

module _ {A : Type 0} where
  -- f i, f (i + 1), .., n of them
  unfoldable pub tabulate_from : (ℕ → A) → ℕ → ℕ → List A
  tabulate_from f i zero = []
  tabulate_from f i (suc n) = f i ∷ tabulate_from f (suc i) n

  -- f 0, f 1, .., n of them
  abbrev pub tabulate : (ℕ → A) → ℕ → List A
  tabulate f n = tabulate_from f 0 n
