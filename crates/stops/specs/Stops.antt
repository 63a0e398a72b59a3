-- Stops on the belt (02, R-1): which lists of positions are stops, and where they cut a series. Definitions only.
use Rattle.std.specs.Prelude.{Bool, true, false, not, ◌&&◌, ◌||◌, cond, List, [], ◌∷◌, map, ℕ, zero, suc, ◌-◌, eqb, leb, ltb}
use Rattle.laws.specs.Bools.{every}

-- ---- where a series is cut

-- one of the stops is p
unfoldable pub stop_at : List ℕ → ℕ → Bool
stop_at [] p = false
stop_at (s ∷ stops) p = eqb s p || stop_at stops p

-- Whether there is a cut between positions q - 1 and q. "A stop at p lies between p-1 and p." On a moving range series also "the moving
-- range of index p straddles the stop: only windows of length one may hold it". That range stands at position p - 1, so the series is cut
-- before it too.
unfoldable pub cut_at : List ℕ → Bool → ℕ → Bool
cut_at stops moving q = stop_at stops q || (moving && stop_at stops (suc q))

-- the first of the positions that stand next to each other up to position i: that of the last cut, or 0
unfoldable pub since : (ℕ → Bool) → ℕ → ℕ
since cut zero = 0
since cut (suc i) = cond (cut (suc i)) (suc i) (since cut i)

-- ---- 15: "stops not strictly rising, outside 1 to the main series' points less one"

unfoldable pub rising : List ℕ → Bool
rising [] = true
rising (p ∷ []) = true
rising (p ∷ q ∷ stops) = ltb p q && rising (q ∷ stops)

abbrev pub within : ℕ → ℕ → Bool
within points p = leb 1 p && leb p (points - 1)

-- of a main series of so many points
unfoldable pub stops_wrong : ℕ → List ℕ → Bool
stops_wrong points stops = not (rising stops) || not (every (map (within points) stops))

-- how many points the main series has where a series of it has n: one of moving ranges is "one point shorter than its main series"
abbrev pub main_points : Bool → ℕ → ℕ
main_points moving n = cond moving (suc n) n
