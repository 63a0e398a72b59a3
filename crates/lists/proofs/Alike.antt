-- What `all` says of a row, as one test of it. Assumes nothing.
use mathlib.Core.Path.{◌≡◌, refl, sym}
use mathlib.Core.Bool.{Bool, true, false}
use mathlib.Core.List.{List, [], ◌∷◌}
use Prim.Native.Nat.{ℕ, suc, ◌<◌}
use native.Mathlib.Omega.{arith}
use lib.ListN.{length}
use Rattle.std.specs.Bool.{MatchBool}
use Rattle.std.specs.List.{list_all, AllWithin, HoldsAt}
use Rattle.std.proofs.lemmas.List.Folds.{list_all_at}

module _ {A : Type 0} (p : A → Bool) where
  each : (ys : List A) → AllWithin (λ y. p y ≡ true) ys 0 (length ys) → list_all p ys ≡ true
  each [] h = refl
  each (y ∷ ys) h =
      let first : p y ≡ true = h 0 y (omega arith) (omega arith) in
      rw first (each ys (λ k d l m. h (suc k) d (omega arith) (omega arith)))

  pub as_test : (r : Bool) (ys : List A)
      → MatchBool r (AllWithin (λ y. p y ≡ true) ys 0 (length ys)) ((k : ℕ) × (k < length ys) × HoldsAt (λ y. p y ≡ false) ys k) → r ≡ list_all p ys
  as_test true ys h = sym (each ys h)
  as_test false [] h = absurd (omega (arith, h.1))
  as_test false (y ∷ ys) h = sym (list_all_at p (y ∷ ys) h.0 y h.1 (h.2 y))
