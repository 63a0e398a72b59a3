-- Windows told from lists of yes and no: all of a window, all its steps, its steps by turns, so many of it. Assumes nothing.
use mathlib.Core.Path.{◌≡◌, refl, sym, ap, ap₂, ◌∙◌}
use mathlib.Core.Bool.{Bool, true, false, not, ◌&&◌, cond}
use mathlib.Core.List.{List, [], ◌∷◌, map}
use Prim.Native.Nat.{ℕ, zero, suc, ◌≤◌}
use native.Mathlib.Nat.{le_of_suc-le-suc}
use native.Mathlib.Omega.{arith}
use lib.Dec.{leb}
use lib.Ieee.{Float}
use lib.ListN.{length, take}
use lib.Seq.{take-nil}
use Rattle.laws.specs.Bools.{every, count}
use Rattle.rules.specs.Tests.{all, at_least, rise, fall, steps, alternating}
use Rattle.rules.specs.Columns.{first, by_turns, some}

-- ---- yes and no

pub and-swap : (a b c : Bool) → (a && (b && c)) ≡ (b && (a && c))
and-swap true b c = refl
and-swap false true c = refl
and-swap false false c = refl

-- what stands behind a yes matters only where it is one
pub behind : (a b c : Bool) → (a ≡ true → b ≡ c) → (a && b) ≡ (a && c)
behind true b c h = h refl
behind false b c h = refl

-- ---- windows of values

map-take : (p : Float → Bool) (n : ℕ) (past : List Float) → take n (map p past) ≡ map p (take n past)
map-take p zero past = refl
map-take p (suc n) [] = refl
map-take p (suc n) (v ∷ past) = ap (λ (l : List Bool). p v ∷ l) (map-take p n past)

module _ (p : Float → Bool) (n : ℕ) (past : List Float) (bs : List Bool) (e : take n bs ≡ take n (map p past)) where
  pub all_of : first n bs ≡ all p (take n past)
  all_of = ap every (e ∙ map-take p n past)

  pub some_of : (k : ℕ) → some k n bs ≡ at_least k p (take n past)
  some_of k = ap (λ (l : List Bool). leb k (count l)) (e ∙ map-take p n past)

-- ---- windows of steps

take_steps : (r : Float → Float → Bool) (n : ℕ) (past : List Float) → take n (steps r past) ≡ steps r (take (suc n) past)
unfolding steps
take_steps r n [] = take-nil n
take_steps r zero (v ∷ []) = refl
take_steps r zero (v ∷ u ∷ w) = refl
take_steps r (suc n) (v ∷ []) = refl
take_steps r (suc n) (v ∷ u ∷ w) = ap (λ (l : List Bool). r u v ∷ l) (take_steps r n (u ∷ w))

pub length-steps : (r : Float → Float → Bool) (v : Float) (w : List Float) → length (steps r (v ∷ w)) ≡ length w
unfolding steps
length-steps r v [] = refl
length-steps r v (u ∷ w) = ap suc (length-steps r u w)

-- of a window there is a step less
pub enough-steps : (r : Float → Float → Bool) (n : ℕ) (past : List Float) → suc n ≤ length past → n ≤ length (steps r past)
enough-steps r n [] h = absurd (omega arith)
enough-steps r n (v ∷ w) h = omega (arith, length-steps r v w)

pub steps_of : (r : Float → Float → Bool) (n : ℕ) (past : List Float) (bs : List Bool) → take n bs ≡ take n (steps r past)
    → first n bs ≡ every (steps r (take (suc n) past))
steps_of r n past bs e = ap every (e ∙ take_steps r n past)

-- ---- steps by turns

-- up where d says so
abbrev way : Bool → Float → Float → Bool
way d u v = cond d (rise u v) (fall u v)

turns-from : (d : Bool) (n : ℕ) (v : Float) (w : List Float) → n ≤ length w
    → by_turns n (steps (way d) (v ∷ w)) (steps (way (not d)) (v ∷ w)) ≡ alternating d (take (suc n) (v ∷ w))
unfolding by_turns steps alternating
turns-from d zero v w h = refl
turns-from d (suc n) v [] h = absurd (omega arith)
turns-from true (suc n) v (u ∷ w) h = ap (λ (b : Bool). rise u v && b) (turns-from false n u w (le_of_suc-le-suc h))
turns-from false (suc n) v (u ∷ w) h = ap (λ (b : Bool). fall u v && b) (turns-from true n u w (le_of_suc-le-suc h))

-- only the first n of each list count
turns-take : (n : ℕ) (xs ys : List Bool) → by_turns n (take n xs) (take n ys) ≡ by_turns n xs ys
unfolding by_turns
turns-take zero xs ys = refl
turns-take (suc n) [] ys = refl
turns-take (suc n) (x ∷ xs) [] = refl
turns-take (suc n) (x ∷ xs) (y ∷ ys) = ap (λ (b : Bool). x && b) (turns-take n ys xs)

turns-all : (d : Bool) (n : ℕ) (past : List Float) → suc n ≤ length past
    → by_turns n (steps (way d) past) (steps (way (not d)) past) ≡ alternating d (take (suc n) past)
turns-all d n [] h = absurd (omega arith)
turns-all d n (v ∷ w) h = turns-from d n v w (le_of_suc-le-suc h)

pub turns-of : (d : Bool) (n : ℕ) (past : List Float) (xs ys : List Bool) → suc n ≤ length past
    → take n xs ≡ take n (steps (way d) past) → take n ys ≡ take n (steps (way (not d)) past)
    → by_turns n xs ys ≡ alternating d (take (suc n) past)
turns-of d n past xs ys h e f =
    sym (turns-take n xs ys)
    ∙ ap₂ (by_turns n) e f
    ∙ turns-take n (steps (way d) past) (steps (way (not d)) past)
    ∙ turns-all d n past h
