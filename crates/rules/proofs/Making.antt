-- Making codes: what is put into codes that stand already, one by one or sixteen at a time; what all families put into clear codes; and
-- the codes of values that are a part of others. Assumes nothing.
use mathlib.Core.Path.{◌≡◌, refl, sym, ap, ap₂, ◌∙◌}
use mathlib.Core.Bool.{Bool, true, false}
use mathlib.Core.List.{List, ◌∷◌, ◌++◌}
use Prim.Native.Nat.{ℕ, zero, suc, ◌+◌, ◌-◌, ◌*◌, ◌/◌, ◌%◌, ◌≤◌, ◌<◌, max}
use native.Mathlib.Nat.{add-zero, add-suc}
use native.Mathlib.Omega.{arith}
use borrow.Author.Tests.{lt-ltb, le-ltb, ltb-true, ltb-false}
use lib.Arith.{bin_ind}
use lib.Bits.{bit_or, or_step, or_zero_r}
use lib.Dec.{ltb}
use lib.Ieee.{Float, nan}
use lib.ListN.{length, take, drop, get_or, set, replicate, length-set, get_or-append}
use lib.Seq.{get_or-append-add, get_or-take, get_or-drop, get_or-set_same, get_or-set_other, length-take-le}
use Rattle.laws.specs.Lists.{tabulate}
use Rattle.laws.specs.Front.{at_front}
use Rattle.laws.proofs.Filling.{Tabling}
use Rattle.laws.proofs.Lending.{lent, regained}
use Rattle.rules.specs.declared.Lines.{Lines}
use Rattle.rules.specs.Codes.{picked, zone_code, inside_code, step_code, family_at, asks, Coded, Added, Clear, code_of, code_at, CodesOf}
use Rattle.rules.proofs.Parts.{lent_at, regained-at, regained-before}

-- while a table is written, the entry to be written next is as it was
pub tabling-next : (f : ℕ → ℕ) (n : ℕ) (old now : List ℕ) (i : ℕ) → Tabling f n old now i → get_or now i 0 ≡ get_or old i 0
tabling-next f n old now i t =
    let done = take i (tabulate f n) in
    let here : i ≡ length done + 0 = omega (arith, length-take-le i (tabulate f n) t.within) in
    ap (λ (l : List ℕ). get_or l i 0) t.holds
    ∙ ap (λ (k : ℕ). get_or (done ++ drop i old) k 0) here
    ∙ get_or-append-add done (drop i old) 0 0
    ∙ get_or-drop i old 0 0
    ∙ ap (λ (k : ℕ). get_or old k 0) (add-zero i)

-- ---- what is put into codes

or-again : (y x : ℕ) → bit_or (bit_or x y) y ≡ bit_or x y
or-again = bin_ind (λ (y : ℕ). (x : ℕ) → bit_or (bit_or x y) y ≡ bit_or x y) (λ x. or_zero_r (bit_or x 0)) (λ y again x.
    let half : bit_or x y / 2 ≡ bit_or (x / 2) (y / 2) = omega (arith, or_step x y) in
    let low : max (bit_or x y % 2) (y % 2) ≡ max (x % 2) (y % 2) = omega (arith, or_step x y) in
    or_step (bit_or x y) y
    ∙ ap₂ (λ (h : ℕ) (d : ℕ). h * 2 + d) (ap (λ (h : ℕ). bit_or h (y / 2)) half ∙ again (x / 2)) low
    ∙ sym (or_step x y))

-- to put something in where it may stand already
once : (b : Bool) (x y : ℕ) → bit_or (bit_or x (picked b y)) y ≡ bit_or x y
once true x y = or-again y x
once false x y = ap (λ (z : ℕ). bit_or z y) (or_zero_r x)

-- where nothing is put in, codes are as they were
pub added_none : (n : ℕ) (old : List ℕ) → Added (λ j. 0) n old old
added_none n old = record { at = λ j. sym (ap (bit_or (get_or old j 0)) (none (ltb j n)) ∙ or_zero_r (get_or old j 0)) }
  where
    none : (b : Bool) → picked b 0 ≡ 0
    none true = refl
    none false = refl

-- f is being put into the first n codes, and was into the first i
pub record Adding (f : ℕ → ℕ) (n : ℕ) (old now : List ℕ) (i : ℕ) : Type 0 where
  pub within : i ≤ n
  pub room : length now ≡ length old
  pub added : Added f i old now

pub adding-starts : (f : ℕ → ℕ) (n : ℕ) (old : List ℕ) → Adding f n old old 0
adding-starts f n old = record {
  within = omega arith;
  room = refl;
  added = record {
    at = λ j. sym (ap (λ (b : Bool). bit_or (get_or old j 0) (picked b (f j))) (le-ltb j 0 (omega arith)) ∙ or_zero_r (get_or old j 0));
  };
}

pub adding-ends : (f : ℕ → ℕ) (n : ℕ) (old now : List ℕ) (i : ℕ) → Adding f n old now i → n ≤ i → Added f n old now
adding-ends f n old now i a h = let all : i ≡ n = omega (arith, a.within) in rw all at a.added

-- f was put into the first i codes, and now goes into some more of the first e
module _ (f : ℕ → ℕ) (old now : List ℕ) (i : ℕ) (a : Added f i old now) (more : List ℕ) (e j : ℕ) where
  goes_in : j < e → get_or more j 0 ≡ bit_or (get_or now j 0) (f j) → get_or more j 0 ≡ bit_or (get_or old j 0) (picked (ltb j e) (f j))
  goes_in h is =
      is
      ∙ ap (λ (x : ℕ). bit_or x (f j)) (a.at j)
      ∙ once (ltb j i) (get_or old j 0) (f j)
      ∙ ap (λ (b : Bool). bit_or (get_or old j 0) (picked b (f j))) (sym (lt-ltb j e h))

  stays : ltb j i ≡ ltb j e → get_or more j 0 ≡ get_or now j 0 → get_or more j 0 ≡ bit_or (get_or old j 0) (picked (ltb j e) (f j))
  stays same is = is ∙ a.at j ∙ ap (λ (b : Bool). bit_or (get_or old j 0) (picked b (f j))) same

module _ (f : ℕ → ℕ) (n : ℕ) (old now : List ℕ) (i : ℕ) (adding : Adding f n old now i) where
  abbrev a : Added f i old now
  a = adding.added

  -- into the next
  pub adding-one : (y : ℕ) → y ≡ f i → i < n → i < length now → Adding f n old (set now i (bit_or (get_or now i 0) y)) (i + 1)
  adding-one y e low h = record {
    within = omega arith;
    room = simp length-set adding.room;
    added = record { at = λ j. by j (ltb j i) refl (ltb i j) refl };
  }
    where
      x : ℕ
      x = bit_or (get_or now i 0) y

      by : (j : ℕ) (b : Bool) → ltb j i ≡ b → (d : Bool) → ltb i j ≡ d → get_or (set now i x) j 0 ≡ bit_or (get_or old j 0) (picked (ltb j (i + 1)) (f j))
      by j true p d q =
          let low : j < i = ltb-true j i p in
          stays f old now i a (set now i x) (i + 1) j (p ∙ sym (lt-ltb j (i + 1) (omega arith))) (get_or-set_other now i j x 0 (λ r. omega arith))
      by j false p true q =
          let high : i < j = ltb-true i j q in
          stays f old now i a (set now i x) (i + 1) j (p ∙ sym (le-ltb j (i + 1) (omega arith))) (get_or-set_other now i j x 0 (λ r. omega arith))
      by j false p false q =
          let here : i ≡ j = omega (arith, ltb-false j i p, ltb-false i j q) in
          goes_in f old now i a (set now i x) (i + 1) j (omega arith) (rw (← here) (get_or-set_same now i x 0 h ∙ ap (bit_or (get_or now i 0)) e))

  -- into sixteen that end at e, some of which may have it already
  added-part : (s e : ℕ) (k part : List ℕ) → s ≤ i → i ≤ e → e ≡ s + 16 → e ≤ length now → Coded (λ j. f (s + j)) 16 k
      → Added (λ j. get_or k j 0) 16 (lent now s) part → Added f e old (regained now s part)
  added-part s e k part low high end fits made put = record { at = λ j. by j (ltb j s) refl (ltb j e) refl }
    where
      more : List ℕ
      more = regained now s part

      behind : (j : ℕ) → s ≤ j → get_or more j 0 ≡ bit_or (get_or now j 0) (picked (ltb (j - s) 16) (get_or k (j - s) 0))
      behind j h =
          let here : s + (j - s) ≡ j = omega arith in
          ap (λ (m : ℕ). get_or more m 0) (sym here)
          ∙ regained-at now s part (omega arith) (j - s)
          ∙ put.at (j - s)
          ∙ ap (λ (x : ℕ). bit_or x (picked (ltb (j - s) 16) (get_or k (j - s) 0))) (lent_at now s (j - s) ∙ ap (λ (m : ℕ). get_or now m 0) here)

      by : (j : ℕ) (b : Bool) → ltb j s ≡ b → (d : Bool) → ltb j e ≡ d → get_or more j 0 ≡ bit_or (get_or old j 0) (picked (ltb j e) (f j))
      by j true p d q =
          let first : j < s = ltb-true j s p in
          stays f old now i a more e j (lt-ltb j i (omega arith) ∙ sym (lt-ltb j e (omega arith))) (regained-before now s part (omega arith) j first)
      by j false p true q =
          let h : s ≤ j = omega (arith, ltb-false j s p) in
          let inside : j - s < 16 = omega (arith, ltb-true j e q) in
          let here : s + (j - s) ≡ j = omega arith in
          goes_in f old now i a more e j (ltb-true j e q)
          (behind j h
          ∙ ap (λ (b : Bool). bit_or (get_or now j 0) (picked b (get_or k (j - s) 0))) (lt-ltb (j - s) 16 inside)
          ∙ ap (bit_or (get_or now j 0)) (made.at (j - s) inside ∙ ap f here))
      by j false p false q =
          let h : s ≤ j = omega (arith, ltb-false j s p) in
          let last : e ≤ j = omega (arith, ltb-false j e q) in
          stays f old now i a more e j (le-ltb j i (omega arith) ∙ sym q)
          (behind j h
          ∙ ap (λ (b : Bool). bit_or (get_or now j 0) (picked b (get_or k (j - s) 0))) (le-ltb (j - s) 16 (omega arith))
          ∙ or_zero_r (get_or now j 0))

-- ---- clear codes

pub clear-zeros : (n : ℕ) → Clear (replicate n 0)
clear-zeros n = record { at = by n }
  where
    by : (n i : ℕ) → ◌≡◌ {A = ℕ} (get_or (replicate n 0) i 0) 0
    by zero i = refl
    by (suc n) zero = refl
    by (suc n) (suc i) = by n i

pub lent-clear : (now : List ℕ) (i : ℕ) → Clear now → Clear (lent now i)
lent-clear now i clear = record { at = λ j. lent_at now i j ∙ clear.at (i + j) }

-- codes that were clear have what was put into them
pub coded : (f : ℕ → ℕ) (n : ℕ) (old now : List ℕ) → Clear old → Added f n old now → Coded f n now
coded f n old now clear a = record {
  at = λ j h. a.at j ∙ ap₂ (λ (x : ℕ) (b : Bool). bit_or x (picked b (f j))) (clear.at j) (lt-ltb j n h);
}

-- and so they have what all families put into them
pub codes-by : (set : ℕ) (l : Lines) (u : Float) (vs : List Float) (n : ℕ) (k0 k1 k2 k3 k4 k5 k6 : List ℕ)
    → Clear k0
    → Added (family_at (λ u v. zone_code l.ucl l.lcl 1 1 v) (asks set 1) u vs) n k0 k1
    → Added (family_at (λ u v. zone_code l.cl l.cl 258 16896 v) (asks set 258) u vs) n k1 k2
    → Added (family_at (λ u v. zone_code l.above2 l.below2 16 4096 v) (asks set 16) u vs) n k2 k3
    → Added (family_at (λ u v. zone_code l.above1 l.below1 160 8320 v) (asks set 160) u vs) n k3 k4
    → Added (family_at (λ u v. inside_code l.above1 l.below1 v) (asks set 64) u vs) n k4 k5
    → Added (family_at step_code (asks set 12) u vs) n k5 k6
    → Coded (code_at set l u vs) n k6
unfolding code_of
codes-by set l u vs n k0 k1 k2 k3 k4 k5 k6 clear e1 e2 e3 e4 e5 e6 = record {
  at = λ j h. simp (e6.at j, e5.at j, e4.at j, e3.at j, e2.at j, e1.at j, clear.at j, lt-ltb j n h);
}

-- ---- the codes of values that are a part of others

-- what F makes of each value and the one before it; u comes before the first
abbrev pub nth : (Float → Float → ℕ) → Float → List Float → ℕ → ℕ
nth F u vs i = F (get_or (u ∷ vs) i nan) (get_or vs i nan)

module _ (F : Float → Float → ℕ) where
  -- values that agree have the same
  same_at : (u : Float) (vs ws : List Float) (m : ℕ) → ((j : ℕ) → j < m → get_or vs j nan ≡ get_or ws j nan) → (j : ℕ) → j < m → nth F u vs j ≡ nth F u ws j
  same_at u vs ws m same zero h = ap (F u) (same zero h)
  same_at u vs ws m same (suc j) h = ap₂ F (same j (omega arith)) (same (suc j) h)

  -- those of the m values from i on
  part_at : (values : List Float) (u : Float) (i m : ℕ) → u ≡ get_or (get_or values 0 nan ∷ values) i nan
      → (j : ℕ) → j < m → nth F u (take m (drop i values)) j ≡ nth F (get_or values 0 nan) values (i + j)
  part_at values u i m e j h = by j h
    where
      here : (j : ℕ) → j < m → get_or (take m (drop i values)) j nan ≡ get_or values (i + j) nan
      here j h = get_or-take m (drop i values) j nan h ∙ get_or-drop i values j nan

      by : (j : ℕ) → j < m → nth F u (take m (drop i values)) j ≡ nth F (get_or values 0 nan) values (i + j)
      by zero h = ap₂ F (e ∙ ap (λ (k : ℕ). get_or (get_or values 0 nan ∷ values) k nan) (sym (add-zero i))) (here zero h)
      by (suc j) h =
          ap₂ F (here j (omega arith) ∙ ap (λ (k : ℕ). get_or (get_or values 0 nan ∷ values) k nan) (sym (add-suc i j))) (here (suc j) h)

  -- what F makes of the sixteen values that end at e goes into their codes
  module _ (values : List Float) (i e : ℕ) (next : (i < e) × (e ≤ length values) × (16 ≤ e) × (e ≤ i + 16)) where
    pub adding-next : (old now : List ℕ) → Adding (nth F (get_or values 0 nan) values) (length values) old now i → length values ≤ length old
        → (u : Float) → u ≡ get_or (get_or values 0 nan ∷ values) (e - 16) nan
        → (k part : List ℕ) → Coded (nth F u (take (e - (e - 16)) (drop (e - 16) values))) 16 k
        → Added (λ j. get_or k j 0) 16 (lent now (e - 16)) part → length (regained now (e - 16) part) ≡ length old
        → Adding (nth F (get_or values 0 nan) values) (length values) old (regained now (e - 16) part) e
    adding-next old now a many u before k part made put same = record {
      within = next.1;
      room = same;
      added =
          added-part (nth F (get_or values 0 nan) values) (length values) old now i a (e - 16) e k part
          (omega (arith, next.3)) (omega (arith, next.0)) (omega (arith, next.2)) (omega (arith, next.1, a.room))
          (record { at = λ j h. made.at j h ∙ part_at values u (e - 16) (e - (e - 16)) before j (omega (arith, next.2)) }) put;
    }

-- values at the front of sixteen have their codes
pub codes-padded : (set : ℕ) (l : Lines) (values old vs : List Float) (cs : List ℕ) → length values ≤ 16 → length vs ≡ 16
    → vs ≡ at_front values old → CodesOf set l (take 16 vs) cs → CodesOf set l values cs
codes-padded set l values old vs cs few sixteen e made = record {
  at = λ j h.
      made.at j (omega (arith, length-take-le 16 vs (omega arith)))
      ∙ ap (λ (u : Float). nth F u (take 16 vs) j) (same 0 (omega arith))
      ∙ same_at F (get_or values 0 nan) (take 16 vs) values (length values) same j h;
}
  where
    F : Float → Float → ℕ
    F = code_of (asks set) l

    same : (j : ℕ) → j < length values → get_or (take 16 vs) j nan ≡ get_or values j nan
    same j h =
        get_or-take 16 vs j nan (omega arith) ∙ ap (λ (xs : List Float). get_or xs j nan) e ∙ get_or-append values (drop (length values) old) nan j h
