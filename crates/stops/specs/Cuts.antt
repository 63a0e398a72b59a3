-- What the cuts of stops do, one after the other, to what was found without them. Nothing here has to be believed: the proofs tie it to
-- Stops.antt. Definitions only.
use Rattle.std.specs.Prelude.{Bool, false, ◌&&◌, cond, List, [], ◌∷◌, ℕ, ◌-◌, leb, ltb}

-- no cut anywhere
abbrev pub unbroken : ℕ → Bool
unbroken q = false

-- `step q` is what a cut before q does
module _ {A : Type 0} (step : ℕ → A → A) where
  unfoldable pub by_stop : ℕ → Bool → A → A
  by_stop p moving x = step p (cond (moving && ltb 0 p) (step (p - 1) x) x)

  unfoldable pub by_stops : List ℕ → Bool → A → A
  by_stops [] moving x = x
  by_stops (p ∷ stops) moving x = by_stops stops moving (by_stop p moving x)

-- to the first position next to `at`
unfoldable pub nearer : ℕ → ℕ → ℕ → ℕ
nearer at q first = cond (leb q at && ltb first q) q first
