-- The cuts of stops, one after the other: what they do is what all of them do at once. Assumes nothing.
use mathlib.Core.Path.{◌≡◌, refl, sym, ap, ◌∙◌, fun_ext}
use mathlib.Core.Bool.{Bool, true, false, ◌&&◌, ◌||◌, cond, and-false, or-false, or-true}
use mathlib.Core.List.{List, [], ◌∷◌}
use Prim.Native.Nat.{ℕ, zero, suc, ◌+◌, ◌-◌, ◌≤◌, ◌<◌}
use native.Mathlib.Numerals.{add-one}
use native.Mathlib.Omega.{arith}
use borrow.Author.Tests.{le-leb, lt-leb, leb-true, leb-false, lt-ltb, ltb-true, ne_eqb, eqb-true, eqb-false}
use lib.Dec.{leb, ltb, eqb, eqb-suc-suc}
use lib.ListN.{length, drop, get_or, drop_of_length-le}
use lib.Seq.{drop-cons}
use Rattle.stops.specs.Stops.{stop_at, cut_at, since}
use Rattle.stops.specs.Cuts.{unbroken, by_stop, by_stops, nearer}

-- ---- the cuts of stops, one after the other

module _ {A : Type 0} (step : ℕ → A → A) where
  module _ (p : ℕ) (moving : Bool) (x : A) where
    pub both-cuts : (moving && ltb 0 p) ≡ true → step p (step (p - 1) x) ≡ by_stop step p moving x
    unfolding by_stop
    both-cuts e = ap (λ (b : Bool). step p (cond b (step (p - 1) x) x)) (sym e)

    pub one-cut : (moving && ltb 0 p) ≡ false → step p x ≡ by_stop step p moving x
    unfolding by_stop
    one-cut e = ap (λ (b : Bool). step p (cond b (step (p - 1) x) x)) (sym e)

  module _ (stops : List ℕ) (moving : Bool) (x : A) (i : ℕ) where
    pub stops-next : i < length stops → by_stops step (drop i stops) moving x ≡ by_stops step (drop (i + 1) stops) moving (by_stop step (get_or stops i 0) moving x)
    unfolding by_stops
    stops-next h = rw (drop-cons stops i 0 h, add-one i) refl

    pub stops-none : length stops ≤ i → by_stops step (drop i stops) moving x ≡ x
    unfolding by_stops
    stops-none h = rw (drop_of_length-le stops h) refl

-- a cut more, before q
abbrev pub or_at : (ℕ → Bool) → ℕ → ℕ → Bool
or_at cut q j = cut j || eqb q j

-- where `step q` takes what is found with some cuts to what is found with a cut more, before q
module _ {A : Type 0} (step : ℕ → A → A) (F : (ℕ → Bool) → A) (one : (cut : ℕ → Bool) (q : ℕ) → step q (F cut) ≡ F (or_at cut q)) where
  -- one stop
  abbrev or_stop : (ℕ → Bool) → ℕ → Bool → ℕ → Bool
  or_stop cut p moving q = cut q || (eqb p q || (moving && eqb p (suc q)))

  plain : (cut : ℕ → Bool) (p : ℕ) (second : ℕ → Bool) → ((q : ℕ) → second q ≡ false) → F (or_at cut p) ≡ F (λ q. cut q || (eqb p q || second q))
  plain cut p second none = ap F (fun_ext (λ q. ap (λ (b : Bool). cut q || b) (sym (ap (λ (b : Bool). eqb p q || b) (none q) ∙ or-false (eqb p q)))))

  by-stop : (cut : ℕ → Bool) (p : ℕ) (moving : Bool) → by_stop step p moving (F cut) ≡ F (or_stop cut p moving)
  unfolding by_stop
  by-stop cut p false = one cut p ∙ plain cut p (λ q. false) (λ q. refl)
  by-stop cut zero true = one cut 0 ∙ plain cut 0 (λ q. eqb 0 (suc q)) (λ q. ne_eqb 0 (suc q) (λ e. omega arith))
  by-stop cut (suc p) true =
      ap (λ (b : Bool). step (suc p) (cond b (step (suc p - 1) (F cut)) (F cut))) (lt-ltb 0 (suc p) (omega arith))
      ∙ ap (step (suc p)) (ap (λ (k : ℕ). step k (F cut)) less ∙ one cut p)
      ∙ one (or_at cut p) (suc p)
      ∙ ap F (fun_ext (λ q. swap (cut q) (eqb p q) (eqb (suc p) q) ∙ ap (λ (b : Bool). cut q || (eqb (suc p) q || b)) (next q)))
    where
      less : suc p - 1 ≡ p
      less = omega arith

      swap : (a b c : Bool) → ((a || b) || c) ≡ (a || (c || b))
      swap true b c = refl
      swap false true true = refl
      swap false true false = refl
      swap false false true = refl
      swap false false false = refl

      next : (q : ℕ) → eqb p q ≡ eqb (suc p) (suc q)
      next q = sym (eqb-suc-suc p q)

  -- all of them
  pub by-stops : (stops : List ℕ) (moving : Bool) (cut : ℕ → Bool) → by_stops step stops moving (F cut) ≡ F (λ q. cut q || cut_at stops moving q)
  unfolding by_stops cut_at stop_at
  by-stops [] moving cut = ap F (fun_ext (λ q. sym (ap (λ (b : Bool). cut q || b) (and-false moving) ∙ or-false (cut q))))
  by-stops (p ∷ stops) moving cut =
      ap (by_stops step stops moving) (by-stop cut p moving)
      ∙ by-stops stops moving (or_stop cut p moving)
      ∙ ap F (fun_ext (λ q. join moving (cut q) (eqb p q) (eqb p (suc q)) (stop_at stops q) (stop_at stops (suc q))))
    where
      join : (m a b c d e : Bool) → ((a || (b || (m && c))) || (d || (m && e))) ≡ (a || ((b || d) || (m && (c || e))))
      join m true b c d e = refl
      join m false true c d e = refl
      join true false false true d e = sym (or-true d)
      join true false false false d e = refl
      join false false false c d e = refl

-- ---- the first position next to another

pub since-le : (cut : ℕ → Bool) (i : ℕ) → since cut i ≤ i
unfolding since
since-le cut zero = omega arith
since-le cut (suc i) = by (cut (suc i)) (since-le cut i)
  where
    by : (b : Bool) → since cut i ≤ i → cond b (suc i) (since cut i) ≤ suc i
    by true h = omega arith
    by false h = omega arith

since-unbroken : (i : ℕ) → since unbroken i ≡ 0
unfolding since
since-unbroken zero = refl
since-unbroken (suc i) = since-unbroken i

-- with a cut more
since-more : (at : ℕ) (cut : ℕ → Bool) (q : ℕ) → nearer at q (since cut at) ≡ since (or_at cut q) at
unfolding since nearer
since-more zero cut q = by q
  where
    by : (q : ℕ) → cond (leb q 0 && ltb 0 q) q 0 ≡ 0
    by zero = refl
    by (suc q) = simp (lt-leb (suc q) 0 (omega arith))
since-more (suc i) cut q = by (cut (suc i)) (eqb q (suc i)) refl (since-more i cut q)
  where
    by : (b c : Bool) → eqb q (suc i) ≡ c → cond (leb q i && ltb (since cut i) q) q (since cut i) ≡ since (or_at cut q) i
        → cond (leb q (suc i) && ltb (cond b (suc i) (since cut i)) q) q (cond b (suc i) (since cut i)) ≡ cond (b || c) (suc i) (since (or_at cut q) i)
    by true c e ih = simp (off (ltb (suc i) q) refl)
      where
        off : (d : Bool) → ltb (suc i) q ≡ d → (leb q (suc i) && d) ≡ false
        off true f = ap (λ (b : Bool). b && true) (lt-leb q (suc i) (ltb-true (suc i) q f))
        off false f = and-false (leb q (suc i))
    by false true e ih =
        let here : q ≡ suc i = eqb-true q (suc i) e in
        simp (le-leb q (suc i) (omega arith), lt-ltb (since cut i) q (omega (arith, since-le cut i))) here
    by false false e ih =
        let other = eqb-false q (suc i) e in
        ap (λ (b : Bool). cond (b && ltb (since cut i) q) q (since cut i)) (same (leb q i) refl other) ∙ ih
      where
        same : (d : Bool) → leb q i ≡ d → (q ≡ suc i → ⊥) → leb q (suc i) ≡ leb q i
        same true f other = le-leb q (suc i) (omega (arith, leb-true q i f)) ∙ sym f
        same false f other = lt-leb q (suc i) (far (leb-false q i f) other) ∙ sym f
          where
            far : i < q → (q ≡ suc i → ⊥) → suc i < q
            far g other = omega arith

pub since-stops : (stops : List ℕ) (moving : Bool) (at : ℕ) → by_stops (nearer at) stops moving 0 ≡ since (cut_at stops moving) at
since-stops stops moving at =
    ap (by_stops (nearer at) stops moving) (sym (since-unbroken at))
    ∙ by-stops (nearer at) (λ cut. since cut at) (since-more at) stops moving unbroken

-- ---- no stops, no cuts

pub no-stops : (moving : Bool) → cut_at [] moving ≡ unbroken
unfolding cut_at stop_at
no-stops moving = fun_ext (λ q. and-false moving)
