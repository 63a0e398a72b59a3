-- What a record tells that is not wrong, and the tests ahead of the work once they are passed. Assumes nothing.
use Rattle.std.proofs.Common.{◌≡◌, ℕ, ◌<◌, ◌≤◌, Bool, true, false, cond, not, ◌||◌, eqb, ltb, leb, List, ◌∷◌, length, get_or, take, sym, refl, ap, arith, length-take-le, get_or-take, ltb-false, eqb-true, leb-false}
use borrow.Author.Tests.{not-false, not-true, eqb-false}
use lib.Ieee.{Float, nan}
use Rattle.laws.specs.Bools.{every}
use Rattle.laws.specs.Refusals.{first_of}
use Rattle.laws.proofs.Bools.{or_left, or_right}
use Rattle.laws.proofs.Judged.{every-at}
use Rattle.laws.proofs.Refusals.{Passed, accepted, were-passed}
use Rattle.attributes.specs.declared.Centre.{Centre}
use Rattle.attributes.specs.declared.Centre.TheVariants.{Computed, Given}
use Rattle.attributes.specs.declared.Chart.{Chart}
use Rattle.std.specs.Prelude.{Result}
use Rattle.attributes.specs.declared.Refusal.{Refusal}
use Rattle.attributes.specs.Kinds.{Kind, too_large, sample_p, sample_u, total_of, proportions, rates}
use Rattle.attributes.specs.Records.{PChart, UChart, record_wrong, chart_wrong, full}
use Rattle.attributes.specs.Evaluating.{stored_right, wrong, wrong_p, wrong_u, centre_of}
use Rattle.attributes.specs.Steps.{tested, adding, ahead, Small, SmallTo, FineTo}
use Rattle.attributes.proofs.Totalling.{Exact, total-exact}

-- ---- the record beside its slices

pub record Held (count counts sizes : ℕ) : Type 0 where
  pub few : count ≤ 4096
  pub in-counts : count ≤ counts
  pub in-sizes : count ≤ sizes

pub held : (centre : Bool) (count counts sizes : ℕ) → record_wrong centre count counts sizes ≡ false → Held count counts sizes
unfolding record_wrong
held centre count counts sizes h =
    let a = ltb 4096 count in
    let b = ltb counts count in
    let d = ltb sizes count in
    let three = or_left (centre || a || b) d h in
    record {
      few = ltb-false 4096 count (or_right centre a (or_left (centre || a) b three));
      in-counts = ltb-false counts count (or_right (centre || a) b three);
      in-sizes = ltb-false sizes count (or_right (centre || a || b) d h);
    }

-- ---- adding: room for one sample more

pub record Fits (count counts sizes : ℕ) : Type 0 where
  pub few : count < 4096
  pub in-counts : count < counts
  pub in-sizes : count < sizes

-- the sample's own tests found nothing
own : (n : ℕ) (rest : List (Bool × ℕ)) → first_of ((not (eqb n 0), n) ∷ rest) 0 ≡ 0 → first_of rest 0 ≡ 0
unfolding first_of
own n rest = by (eqb n 0) refl
  where
    by : (b : Bool) → eqb n 0 ≡ b → cond (not b) n (first_of rest 0) ≡ 0 → first_of rest 0 ≡ 0
    by true q h = h
    by false q h = absurd (eqb-false n 0 q h)

pub fits : (wrong : Bool) (sample : Result (Unit {0}) Refusal) (count counts sizes : ℕ) → first_of (adding wrong sample count counts sizes) 0 ≡ 0 → Fits count counts sizes
fits wrong sample count counts sizes e =
    let fourteen = accepted wrong 14 _ (omega arith) e in
    let five = accepted (leb 4096 count) 5 _ (omega arith) (own (tested sample) (full count counts sizes) fourteen.1) in
    let six = accepted (leb counts count || leb sizes count) 6 _ (omega arith) five.1 in
    record {
      few = leb-false 4096 count five.0;
      in-counts = leb-false counts count (or_left (leb counts count) (leb sizes count) six.0);
      in-sizes = leb-false sizes count (or_right (leb counts count) (leb sizes count) six.0);
    }

-- ---- the centre, computed or given

pub computed-centre : (k : Centre) (x : Float) → k ≡ Computed → x ≡ centre_of k x
unfolding centre_of
computed-centre k x e = sym (ap (λ (j : Centre). centre_of j x) e)

pub given-centre : (k : Centre) (p x : Float) → k ≡ Given p → p ≡ centre_of k x
unfolding centre_of
given-centre k p x e = sym (ap (λ (j : Centre). centre_of j x) e)

-- ---- the samples of a record that evaluating takes

pub small-front : (n : ℕ) (l : List ℕ) → n ≤ length l → SmallTo n l → Small (take n l)
small-front n l h each i k =
    let i-in : i < n = omega (arith, length-take-le n l h) in
    rw (get_or-take n l i 0 i-in) (each i i-in)

-- a size that a P chart has
pub inspected : (n : ℕ) → not (too_large n) ≡ true → n ≤ 4294967295
inspected n h = ltb-false 4294967295 n (not-true (too_large n) h)

module _ (count : ℕ) (counts sizes : List ℕ) (h : stored_right proportions count counts sizes ≡ true) where
  sample-P : (i : ℕ) → i < count → (too_large (get_or counts i 0) ≡ false) × (too_large (get_or sizes i 0) ≡ false)
  unfolding stored_right
  sample-P i k =
      let d = get_or counts i 0 in
      let n = get_or sizes i 0 in
      let right = every-at _ count h i k in
      let small = (accepted (too_large d || too_large n) 16 _ (omega arith) (eqb-true (first_of (sample_p d n) 0) 0 right)).0 in
      (or_left (too_large d) (too_large n) small, or_right (too_large d) (too_large n) small)

  pub counts-fit-P : SmallTo count counts
  counts-fit-P i k = ltb-false 4294967295 _ (sample-P i k).0

  pub sizes-fit-P : FineTo proportions count sizes
  sizes-fit-P i k = ap not (sample-P i k).1

module _ (count : ℕ) (counts : List ℕ) (sizes : List Float) (h : stored_right rates count counts sizes ≡ true) where
  pub counts-fit-U : SmallTo count counts
  unfolding stored_right
  counts-fit-U i k =
      let d = get_or counts i 0 in
      ltb-false 4294967295 d (accepted (too_large d) 16 _ (omega arith) (eqb-true (first_of (sample_u d (get_or sizes i nan)) 0) 0 (every-at _ count h i k))).0

-- ---- no rounding has happened ahead of the centre's division

module _ {S : Type 0} (k : Kind S) (c : Chart S) (counts : List ℕ) (sizes : List S) (h : wrong k c counts sizes ≡ false) where
  held-by : Held c.count (length counts) (length sizes)
  unfolding wrong
  held-by = held _ c.count (length counts) (length sizes) (or_left _ _ h)

  right-by : stored_right k c.count counts sizes ≡ true
  unfolding wrong
  right-by = not-false _ (or_right (chart_wrong k c (length counts) (length sizes)) _ h)

few-exact : (n : ℕ) (l : List ℕ) → n ≤ 4096 → n ≤ length l → Small (take n l) → Exact (total_of (take n l))
few-exact n l few room small = total-exact (take n l) (omega (arith, length-take-le n l room, few)) small

module _ (c : PChart) (counts sizes : List ℕ) (h : wrong_p c counts sizes ≡ false) where
  pub held-P : Held c.count (length counts) (length sizes)
  held-P = held-by proportions c counts sizes h

  pub small-counts-P : Small (take c.count counts)
  small-counts-P = small-front c.count counts held-P.in-counts (counts-fit-P c.count counts sizes (right-by proportions c counts sizes h))

  pub small-sizes-P : Small (take c.count sizes)
  small-sizes-P =
      let fit = sizes-fit-P c.count counts sizes (right-by proportions c counts sizes h) in
      small-front c.count sizes held-P.in-sizes (λ i k. inspected _ (fit i k))

  pub totals-exact-P : Exact (total_of (take c.count counts)) × Exact (total_of (take c.count sizes))
  totals-exact-P = (
    few-exact c.count counts held-P.few held-P.in-counts small-counts-P,
    few-exact c.count sizes held-P.few held-P.in-sizes small-sizes-P,
  )

module _ (c : UChart) (counts : List ℕ) (sizes : List Float) (h : wrong_u c counts sizes ≡ false) where
  pub held-U : Held c.count (length counts) (length sizes)
  held-U = held-by rates c counts sizes h

  pub small-counts-U : Small (take c.count counts)
  small-counts-U = small-front c.count counts held-U.in-counts (counts-fit-U c.count counts sizes (right-by rates c counts sizes h))

  pub total-exact-U : Exact (total_of (take c.count counts))
  total-exact-U = few-exact c.count counts held-U.few held-U.in-counts small-counts-U

-- ---- evaluating: what 14, 8 and 6 leave

pub record Ahead (wrong : Bool) (count : ℕ) (short : Bool) : Type 0 where
  pub right : wrong ≡ false
  pub enough : eqb count 0 ≡ false
  pub room : short ≡ false

pub were-ahead : (wrong : Bool) (count : ℕ) (short : Bool) → first_of (ahead wrong count short) 0 ≡ 0 → Ahead wrong count short
unfolding Passed every
were-ahead wrong count short e =
    let all = were-passed (ahead wrong count short) refl e in
    record { right = all.0; enough = all.1.0; room = all.1.1.0 }
