-- Whether positions are stops, judged one after the other. Assumes nothing.
use mathlib.Core.Path.{◌≡◌, refl, sym, ap, ap₂, ◌∙◌}
use mathlib.Core.Bool.{Bool, true, false, not, ◌&&◌, ◌||◌, or-true}
use mathlib.Core.List.{List, [], ◌∷◌, map}
use Prim.Native.Nat.{ℕ, zero, suc, ◌+◌, ◌-◌, ◌≤◌, ◌<◌}
use native.Mathlib.Numerals.{add-one}
use native.Mathlib.Omega.{arith}
use borrow.Author.Tests.{le-leb, lt-leb, leb-true, leb-false, lt-ltb, le-ltb}
use lib.Dec.{leb, ltb}
use lib.ListN.{length, drop, get_or, drop_of_length-le}
use lib.Seq.{drop-cons}
use Rattle.laws.specs.Bools.{every}
use Rattle.stops.specs.Stops.{rising, within, stops_wrong}

-- behind a position `last`
pub wrong_from : ℕ → ℕ → List ℕ → Bool
wrong_from points last [] = false
wrong_from points last (p ∷ stops) = (leb p last || leb points p) || wrong_from points p stops

module _ (points : ℕ) where
  -- where a position is above another, it is one of 1 to the points less one unless it is past them
  above : (last p : ℕ) → last < p → within points p ≡ not (leb points p)
  above last p h = by (leb points p) refl
    where
      by : (b : Bool) → leb points p ≡ b → within points p ≡ not b
      by true e = ap₂ ◌&&◌ (le-leb 1 p (omega arith)) (lt-leb p (points - 1) (omega (arith, leb-true points p e)))
      by false e = ap₂ ◌&&◌ (le-leb 1 p (omega arith)) (le-leb p (points - 1) (omega (arith, leb-false points p e)))

  wrong-behind : (last : ℕ) (stops : List ℕ) → wrong_from points last stops ≡ (not (rising (last ∷ stops)) || not (every (map (within points) stops)))
  unfolding wrong_from rising every
  wrong-behind last [] = refl
  wrong-behind last (p ∷ stops) = by (leb p last) refl (wrong-behind p stops)
    where
      swap : (a b c : Bool) → (a || (not b || not c)) ≡ (not b || not (not a && c))
      swap true true c = refl
      swap true false c = refl
      swap false b c = refl

      by : (b : Bool) → leb p last ≡ b
          → wrong_from points p stops ≡ (not (rising (p ∷ stops)) || not (every (map (within points) stops)))
          → ((b || leb points p) || wrong_from points p stops)
          ≡ (not (ltb last p && rising (p ∷ stops)) || not (within points p && every (map (within points) stops)))
      by true e ih =
          sym (ap (λ (c : Bool). not (c && rising (p ∷ stops)) || not (within points p && every (map (within points) stops))) (le-ltb last p (leb-true p last e)))
      by false e ih =
          let over = leb-false p last e in
          ap (λ (c : Bool). leb points p || c) ih
          ∙ swap (leb points p) (rising (p ∷ stops)) (every (map (within points) stops))
          ∙ sym (ap₂ (λ (c d : Bool). not (c && rising (p ∷ stops)) || not (d && every (map (within points) stops))) (lt-ltb last p over) (above last p over))

  -- the first stop has only to be above 0
  pub wrong-all : (stops : List ℕ) → wrong_from points 0 stops ≡ stops_wrong points stops
  unfolding stops_wrong rising every wrong_from
  wrong-all [] = refl
  wrong-all (zero ∷ stops) =
      let none : within points 0 ≡ false = ap (λ (b : Bool). b && leb 0 (points - 1)) (lt-leb 1 0 (omega arith)) in
      ap (λ (b : Bool). (b || leb points 0) || wrong_from points 0 stops) (le-leb 0 0 (omega arith))
      ∙ sym (ap (λ (b : Bool). not (rising (0 ∷ stops)) || not (b && every (map (within points) stops))) none ∙ or-true (not (rising (0 ∷ stops))))
  wrong-all (suc p ∷ stops) =
      wrong-behind 0 (suc p ∷ stops)
      ∙ ap (λ (b : Bool). not (b && rising (suc p ∷ stops)) || not (every (map (within points) (suc p ∷ stops)))) (lt-ltb 0 (suc p) (omega arith))

  -- one stop after the other
  module _ (stops : List ℕ) (i last : ℕ) where
    pub wrong-next : i < length stops
        → wrong_from points last (drop i stops) ≡ ((leb (get_or stops i 0) last || leb points (get_or stops i 0)) || wrong_from points (get_or stops i 0) (drop (i + 1) stops))
    unfolding wrong_from
    wrong-next h = rw (drop-cons stops i 0 h, add-one i) refl

    pub wrong-none : length stops ≤ i → wrong_from points last (drop i stops) ≡ false
    unfolding wrong_from
    wrong-none h = rw (drop_of_length-le stops h) refl

-- no positions are stops of any series
pub none-wrong : (points : ℕ) → stops_wrong points [] ≡ false
unfolding stops_wrong rising every
none-wrong points = refl
