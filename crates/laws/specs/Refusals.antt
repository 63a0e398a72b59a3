-- Refusals in an order (01, 'Numbers a call may give back', Order). Definitions only.
use Rattle.std.specs.Prelude.{Bool, cond, List, [], ◌∷◌, ℕ}

-- the first of the cases that applies, or else what is done where none does
unfoldable pub first_of : {A : Type 0} → List (Bool × A) → A → A
first_of [] done = done
first_of (c ∷ cs) done = cond c.0 c.1 (first_of cs done)

-- the same cases, each with what its number gives
unfoldable pub each : {A : Type 0} → (ℕ → A) → List (Bool × ℕ) → List (Bool × A)
each gives [] = []
each gives (c ∷ cs) = (c.0, gives c.1) ∷ each gives cs
