-- Going through refusals in their order: past those that do not apply, to the first that does, or to the end. Assumes nothing.
use mathlib.Core.Path.{◌≡◌, refl, sym, ap, ◌∙◌}
use mathlib.Core.Bool.{Bool, true, false, cond}
use mathlib.Core.List.{List, [], ◌∷◌, ◌++◌, map}
use Prim.Native.Nat.{ℕ, ◌≤◌, ◌<◌}
use native.Mathlib.Omega.{arith}
use lib.Dec.{ltb, leb, eqb}
use borrow.Author.Tests.{ltb-true, leb-true, le-leb, ne_eqb}
use Rattle.laws.specs.Bools.{every}
use Rattle.laws.specs.Refusals.{first_of, each}
use Rattle.laws.proofs.Bools.{both}

module _ {A : Type 0} (b : Bool) (x : A) (cs : List (Bool × A)) (done : A) where
  pub passed : b ≡ false → first_of ((b, x) ∷ cs) done ≡ first_of cs done
  unfolding first_of
  passed e = ap (λ (t : Bool). cond t x (first_of cs done)) e

  pub refused : b ≡ true → first_of ((b, x) ∷ cs) done ≡ x
  unfolding first_of
  refused e = ap (λ (t : Bool). cond t x (first_of cs done)) e

pub none-applies : {A : Type 0} (done : A) → first_of [] done ≡ done
unfolding first_of
none-applies done = refl

-- where the answer is 0, and a refusal's number is not, no refusal applies
pub accepted : (b : Bool) (n : ℕ) (cs : List (Bool × ℕ)) → 0 < n → first_of ((b, n) ∷ cs) 0 ≡ 0 → (b ≡ false) × (first_of cs 0 ≡ 0)
unfolding first_of
accepted true n cs h e = absurd (omega arith)
accepted false n cs h e = (refl, e)

-- ---- for any list

-- no case of the list applies
unfoldable pub Passed : {A : Type 0} → List (Bool × A) → Type 0
Passed [] = Unit {0}
Passed (c ∷ cs) = (c.0 ≡ false) × Passed cs

-- every case has a number that is not 0
abbrev pub numbers : List (Bool × ℕ) → Bool
numbers cs = every (map (λ (c : Bool × ℕ). ltb 0 c.1) cs)

module _ {A : Type 0} where
  -- those of two lists, one behind the other
  pub first-append : (cs ds : List (Bool × A)) (done : A) → first_of (cs ++ ds) done ≡ first_of cs (first_of ds done)
  unfolding first_of
  first-append [] ds done = refl
  first-append (c ∷ cs) ds done = ap (cond c.0 c.1) (first-append cs ds done)

  -- what the first number gives, or what is done where there is none
  pub each_first : (gives : ℕ → A) (cs : List (Bool × ℕ)) (done : A) → numbers cs ≡ true
      → first_of (each gives cs) done ≡ cond (eqb (first_of cs 0) 0) done (gives (first_of cs 0))
  unfolding first_of each every
  each_first gives [] done h = refl
  each_first gives (c ∷ cs) done h =
      let both_so = both (ltb 0 c.1) (numbers cs) h in by c.0 (ltb-true 0 c.1 both_so.0) (each_first gives cs done both_so.1)
    where
      by : (b : Bool) → 0 < c.1 → first_of (each gives cs) done ≡ cond (eqb (first_of cs 0) 0) done (gives (first_of cs 0))
          → cond b (gives c.1) (first_of (each gives cs) done)
          ≡ cond (eqb (cond b c.1 (first_of cs 0)) 0) done (gives (cond b c.1 (first_of cs 0)))
      by true h e = simp (ne_eqb c.1 0 (omega arith))
      by false h e = e

each_same : (cs : List (Bool × ℕ)) → each (λ n. n) cs ≡ cs
unfolding each
each_same [] = refl
each_same (c ∷ cs) = ap (◌∷◌ c) (each_same cs)

-- the first number, or another where there is none
pub first_else : (cs : List (Bool × ℕ)) (else : ℕ) → numbers cs ≡ true → first_of cs else ≡ cond (eqb (first_of cs 0) 0) else (first_of cs 0)
first_else cs else h = ap (λ (ds : List (Bool × ℕ)). first_of ds else) (sym (each_same cs)) ∙ each_first (λ n. n) cs else h

-- where the answer is 0, no case applies
pub were-passed : (cs : List (Bool × ℕ)) → numbers cs ≡ true → first_of cs 0 ≡ 0 → Passed cs
unfolding first_of every Passed
were-passed [] h e = tt
were-passed (c ∷ cs) h e =
    let both_so = both (ltb 0 c.1) (numbers cs) h in
    let here = accepted c.0 c.1 cs (ltb-true 0 c.1 both_so.0) e in
    (here.0, were-passed cs both_so.1 here.1)

-- what holds of every number, and of 0, holds of the first
pub first-such : (p : ℕ → Bool) (cs : List (Bool × ℕ)) → every (map (λ (c : Bool × ℕ). p c.1) cs) ≡ true → p 0 ≡ true → p (first_of cs 0) ≡ true
unfolding first_of every
first-such p [] h z = z
first-such p (c ∷ cs) h z =
    let both_so = both (p c.1) (every (map (λ (d : Bool × ℕ). p d.1) cs)) h in by c.0 both_so.0 (first-such p cs both_so.1 z)
  where
    by : (b : Bool) → p c.1 ≡ true → p (first_of cs 0) ≡ true → p (cond b c.1 (first_of cs 0)) ≡ true
    by true h e = h
    by false h e = e

-- the first number is no larger than the largest
pub first_under : (top : ℕ) (cs : List (Bool × ℕ)) → every (map (λ (c : Bool × ℕ). leb c.1 top) cs) ≡ true → first_of cs 0 ≤ top
first_under top cs h = leb-true (first_of cs 0) top (first-such (λ n. leb n top) cs h (le-leb 0 top (omega arith)))
