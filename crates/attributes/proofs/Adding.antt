-- A sample added, or not: the number, the record and the slices. Assumes nothing.
use Rattle.std.proofs.Common.{◌≡◌, ℕ, Bool, true, false, cond, not, eqb, ltb, List, [], ◌∷◌, ◌++◌, set, sym, refl, ap, ◌∙◌, ne_eqb}
use Rattle.laws.specs.Bools.{every}
use Rattle.laws.proofs.Bools.{both}
use Rattle.laws.specs.Refusals.{first_of}
use Rattle.laws.proofs.Refusals.{numbers, first-append, first_else, each_first}
use Rattle.attributes.specs.declared.Refusal.{Refusal}
use Rattle.std.specs.Prelude.{Result, Ok, Err}
use Rattle.attributes.specs.Records.{number, full, add_refusals, add_of, kept_after}
use Rattle.attributes.specs.Steps.{tested, adding}
use Rattle.attributes.proofs.Answers.{number-some}

-- the sample's own tests one by one, and what they found
pub in-their-place : (wrong : Bool) (sample rest : List (Bool × ℕ)) {n : ℕ} → numbers sample ≡ true → n ≡ first_of sample 0
    → first_of ((wrong, 14) ∷ (not (eqb n 0), n) ∷ rest) 0 ≡ first_of ((wrong, 14) ∷ sample ++ rest) 0
unfolding first_of
in-their-place wrong sample rest {n} some e =
    ap (cond wrong 14)
    (swap (eqb n 0) n (first_of rest 0)
    ∙ ap (λ (k : ℕ). cond (eqb k 0) (first_of rest 0) k) e
    ∙ sym (first_else sample (first_of rest 0) some)
    ∙ sym (first-append sample rest 0))
  where
    swap : (b : Bool) (x y : ℕ) → cond (not b) x y ≡ cond b y x
    swap true x y = refl
    swap false x y = refl

pub own-refused : {why : Refusal} {t : Result (Unit {0}) Refusal} → t ≡ Err why → not (eqb (tested t) 0) ≡ true
own-refused {why} is = ap (λ (t : Result (Unit {0}) Refusal). not (eqb (tested t) 0)) is ∙ ap not (ne_eqb (number why) 0 (number-some why))

pub own-passed : {t : Result (Unit {0}) Refusal} → t ≡ Ok tt → not (eqb (tested t) 0) ≡ false
own-passed is = ap (λ (t : Result (Unit {0}) Refusal). not (eqb (tested t) 0)) is

pub numbered : {wrong is : Bool} (s : Result (Unit {0}) Refusal) (sample : List (Bool × ℕ)) (count counts sizes : ℕ) {n : ℕ} → wrong ≡ is → tested s ≡ first_of sample 0
    → numbers sample ≡ true → n ≡ first_of (adding wrong s count counts sizes) 0 → n ≡ first_of (add_refusals is sample count counts sizes) 0
numbered {is = is} s sample count counts sizes e f some g =
    g
    ∙ ap (λ (w : Bool). first_of (adding w s count counts sizes) 0) e
    ∙ in-their-place is sample (full count counts sizes) some f

-- no number is 0, where none of the sample's own is
with-full : (sample : List (Bool × ℕ)) (count counts sizes : ℕ) → numbers sample ≡ true → numbers (sample ++ full count counts sizes) ≡ true
unfolding every
with-full [] count counts sizes h = refl
with-full (x ∷ xs) count counts sizes h =
    let both_so = both (ltb 0 x.1) (numbers xs) h in
    rw both_so.0 (with-full xs count counts sizes both_so.1)

pub some-of : (wrong : Bool) (sample : List (Bool × ℕ)) (count counts sizes : ℕ) → numbers sample ≡ true
    → numbers (add_refusals wrong sample count counts sizes) ≡ true
unfolding every
some-of wrong sample count counts sizes h = with-full sample count counts sizes h

module _ {A : Type 0} (refusals : List (Bool × ℕ)) (before after : A) (some : numbers refusals ≡ true) (t : Result (Unit {0}) Refusal) (found : tested t ≡ first_of refusals 0) where
  by_number : add_of refusals before after ≡ cond (eqb (tested t) 0) (0, after) (tested t, before)
  by_number =
      each_first (λ k. (k, before)) refusals (0, after) some
      ∙ ap (λ (k : ℕ). cond (eqb k 0) (0, after) (k, before)) (sym found)

  pub add-refused : {why : Refusal} → t ≡ Err why → (number why, before) ≡ add_of refusals before after
  add-refused {why} is =
      sym
      (by_number
      ∙ ap (λ (u : Result (Unit {0}) Refusal). cond (eqb (tested u) 0) (0, after) (tested u, before)) is
      ∙ ap (λ (b : Bool). cond b (0, after) (number why, before)) (ne_eqb (number why) 0 (number-some why)))

  pub add_done : t ≡ Ok tt → (0, after) ≡ add_of refusals before after
  add_done is = sym (by_number ∙ ap (λ (u : Result (Unit {0}) Refusal). cond (eqb (tested u) 0) (0, after) (tested u, before)) is)

pub kept-refused : {why : Refusal} {t : Result (Unit {0}) Refusal} → t ≡ Err why → {A : Type 0} (count : ℕ) (x : A) (old : List A)
    → old ≡ kept_after (number why) count x old
unfolding kept_after
kept-refused {why} is count x old = sym (ap (λ (b : Bool). cond b (set old count x) old) (ne_eqb (number why) 0 (number-some why)))
