-- Marking block by block: the last fifteen values decide, so that the marks of a part of a series are those of the series from its
-- fifteenth value on, or from its first where the part begins with the series. Assumes nothing.
use mathlib.Core.Path.{◌≡◌, refl, sym, ap, ap₂, ◌∙◌, fun_ext}
use mathlib.Core.Bool.{Bool, true, false, ◌&&◌}
use mathlib.Core.List.{List, [], ◌∷◌, ◌++◌, append-nil}
use Prim.Native.Nat.{ℕ, zero, suc, ◌+◌, ◌-◌, ◌≤◌, ◌<◌}
use native.Mathlib.Nat.{add-zero, add-suc}
use native.Mathlib.Omega.{arith}
use borrow.Author.Tests.{le-leb, leb-true, leb-false, ltb-true, ltb-false}
use lib.Dec.{leb, ltb}
use lib.Ieee.{Float, nan}
use lib.ListN.{length, take, drop}
use lib.Seq.{take-take, take_all, length-take-le, take-append-le, get_or-take, get_or-drop}
use Rattle.sets.specs.declared.Test.{Test}
use Rattle.sets.specs.Sets.{has, set_of}
use Rattle.stops.specs.Cuts.{unbroken}
use Rattle.rules.specs.declared.Lines.{Lines}
use Rattle.rules.specs.Tests.{window, shows}
use Rattle.rules.specs.Marking.{newest_first, stands, marks_at}
use Rattle.rules.proofs.Columns.{window-most}
use Rattle.rules.proofs.Signs.{length-newest}

-- The last fifteen values decide.
pub near : (l : Lines) (t : Test) (past : List Float) → stands l (take 15 past) t ≡ stands l past t
unfolding stands
near l t past = by (leb 15 (length past)) refl
  where
    by : (b : Bool) → leb 15 (length past) ≡ b → stands l (take 15 past) t ≡ stands l past t
    by true e =
        let many : 15 ≤ length past = leb-true 15 (length past) e in
        let small : window t ≤ 15 = window-most t in
        let fits : leb (window t) (length (take 15 past)) ≡ leb (window t) (length past) =
        ap (leb (window t)) (length-take-le 15 past many) ∙ le-leb (window t) 15 small ∙ sym (le-leb (window t) (length past) (omega arith)) in
        ap₂ (λ (b : Bool) (w : List Float). b && shows t l w) fits (take-take (window t) 15 past small)
    by false e =
        let few : length past ≤ 15 = omega (arith, leb-false 15 (length past) e) in
        ap (λ (w : List Float). stands l w t) (take_all 15 past few)

-- Where two series agree on the fifteen values that end at a position of each, or on all if they are fewer, their marks agree there.
pub marks-near : (l : Lines) (set : ℕ) (xs ys : List Float) (i j : ℕ) → take 15 (newest_first unbroken xs (suc i)) ≡ take 15 (newest_first unbroken ys (suc j))
    → marks_at unbroken l set xs i ≡ marks_at unbroken l set ys j
unfolding marks_at
marks-near l set xs ys i j same =
    ap set_of (fun_ext (λ t. ap (λ (b : Bool). has set t && b)
    (sym (near l t (newest_first unbroken xs (suc i))) ∙ ap (λ (w : List Float). stands l w t) same ∙ near l t (newest_first unbroken ys (suc j)))))

-- a part of a series has the series' values, and what came before them behind
newest-part : (values : List Float) (s m k : ℕ) → k ≤ m → newest_first unbroken values (s + k) ≡ newest_first unbroken (take m (drop s values)) k ++ newest_first unbroken values s
unfolding newest_first
newest-part values s m zero h = ap (newest_first unbroken values) (add-zero s)
newest-part values s m (suc k) h =
    ap (newest_first unbroken values) (add-suc s k)
    ∙ ap₂ ◌∷◌ (sym (get_or-take m (drop s values) k nan h ∙ get_or-drop s values k nan)) (newest-part values s m k (omega arith))

-- the marks of a part, where fourteen values of it come before the position, or the part begins with the series
pub marks-part : (l : Lines) (set : ℕ) (values : List Float) (s m i : ℕ) → i < m → (i < 14 → s ≡ 0)
    → marks_at unbroken l set (take m (drop s values)) i ≡ marks_at unbroken l set values (s + i)
marks-part l set values s m i h first = marks-near l set (take m (drop s values)) values i (s + i) (by (ltb i 14) refl)
  where
    part : List Float
    part = newest_first unbroken (take m (drop s values)) (suc i)

    all : newest_first unbroken values (suc (s + i)) ≡ part ++ newest_first unbroken values s
    all = ap (newest_first unbroken values) (sym (add-suc s i)) ∙ newest-part values s m (suc i) h

    by : (b : Bool) → ltb i 14 ≡ b → take 15 part ≡ take 15 (newest_first unbroken values (suc (s + i)))
    by true e =
        let none : newest_first unbroken values s ≡ [] = ap (newest_first unbroken values) (first (ltb-true i 14 e)) ∙ (unfold newest_first in refl) in
        ap (take 15) (sym (all ∙ ap (λ (w : List Float). part ++ w) none ∙ append-nil part))
    by false e =
        let long : 15 ≤ length part = omega (arith, length-newest (take m (drop s values)) (suc i), ltb-false i 14 e) in
        sym (ap (take 15) all ∙ take-append-le 15 part (newest_first unbroken values s) long)

-- a block goes back over fourteen values, or to the first
pub goes_back : (at p : ℕ) → ((i : ℕ) → i < at → i < 14 → i < p) → p < 14 → at - p ≡ 0
goes_back at p least h = by (ltb p at) refl
  where
    by : (b : Bool) → ltb p at ≡ b → at - p ≡ 0
    by true e = absurd (omega (arith, least p (ltb-true p at e) h))
    by false e = omega (arith, ltb-false p at e)
