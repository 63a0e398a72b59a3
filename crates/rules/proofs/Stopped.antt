-- Stops as a mask on marks: behind a cut more, what stands is what stood and whose window is within what is left. So marks with stops are
-- marks without them, less what the first marks of a series lack. Assumes nothing.
use mathlib.Core.Path.{◌≡◌, refl, sym, ap, ap₂, ◌∙◌, fun_ext}
use mathlib.Core.Bool.{Bool, true, false, ◌&&◌, ◌||◌, cond, or-false, or-true}
use mathlib.Core.List.{List, [], ◌∷◌, ◌++◌}
use Prim.Native.Nat.{ℕ, zero, suc, ◌-◌, ◌+◌, ◌≤◌, ◌<◌}
use native.Mathlib.Nat.{zero-add}
use native.Mathlib.Omega.{arith}
use borrow.Author.Tests.{le-leb, lt-leb, leb-true, leb-false, lt-ltb, ltb-true, ltb-false, eq-eqb, ne_eqb, eqb-true, eqb-false}
use lib.Bits.{bit_and, and_comm}
use lib.Dec.{leb, ltb, eqb}
use lib.Ieee.{Float, nan}
use lib.ListN.{length, take, drop, get_or, length-append, length-drop, get_or-append}
use lib.Seq.{take_at, drop_at, take-take, take_all, length-take-le, ext_get_or, get_or-drop, get_or-append-add}
use Rattle.laws.specs.Lists.{tabulate}
use Rattle.laws.specs.Front.{at_front}
use Rattle.laws.proofs.Lists.{length-tabulate, get_d_tabulate, same-tabulate}
use Rattle.laws.proofs.Lending.{lent, regained}
use Rattle.sets.specs.declared.Test.{Test}
use Rattle.sets.specs.Sets.{has, set_of}
use Rattle.sets.proofs.Sets.{and-set_of}
use Rattle.rules.specs.declared.Lines.{Lines}
use Rattle.rules.specs.Tests.{window, shows}
use Rattle.stops.specs.Stops.{cut_at, since}
use Rattle.stops.proofs.Cuts.{or_at, by-stops, since-le}
use Rattle.rules.specs.Marking.{newest_first, stands, marks_at, marks_by}
use Rattle.rules.specs.Columns.{fitting}
use Rattle.rules.specs.Codes.{fits_at}
use Rattle.stops.specs.Cuts.{unbroken, by_stops}
use Rattle.rules.specs.Cuts.{cut_mark, cut_marks}
use Rattle.rules.proofs.Windows.{and-swap}
use Rattle.rules.proofs.Columns.{window-most, fits-window}
use Rattle.rules.proofs.Parts.{part-long, lent_at, regained-at, regained-before}
use Rattle.rules.proofs.Marks.{fits-are}

-- how many values stand next to each other
pub length-since : (cut : ℕ → Bool) (values : List Float) (i : ℕ) → length (newest_first cut values (suc i)) ≡ suc i - since cut i
unfolding newest_first since
length-since cut values zero = by (cut 0)
  where
    by : (b : Bool) → suc (length {A = Float} (cond b [] [])) ≡ 1 - 0
    by true = refl
    by false = refl
length-since cut values (suc i) = by (cut (suc i)) (length-since cut values i)
  where
    by : (b : Bool) → length (newest_first cut values (suc i)) ≡ suc i - since cut i
        → suc (length (cond b [] (newest_first cut values (suc i)))) ≡ suc (suc i) - cond b (suc i) (since cut i)
    by true h = omega arith
    by false h = omega (arith, h, since-le cut i)

-- they are the newest of all values
newest-begins : (cut : ℕ → Bool) (values : List Float) (n : ℕ)
    → newest_first cut values n ≡ take (length (newest_first cut values n)) (newest_first unbroken values n)
unfolding newest_first
newest-begins cut values zero = refl
newest-begins cut values (suc i) = ap (λ (w : List Float). get_or values i nan ∷ w) (by (cut i) (newest-begins cut values i))
  where
    by : (b : Bool) → newest_first cut values i ≡ take (length (newest_first cut values i)) (newest_first unbroken values i)
        → cond b [] (newest_first cut values i) ≡ take (length (cond b [] (newest_first cut values i))) (newest_first unbroken values i)
    by true h = refl
    by false h = h

-- so a window that no cut parts is that of the series as if there were none
pub take-newest : (cut : ℕ → Bool) (values : List Float) (i n : ℕ) → n ≤ suc i - since cut i
    → take n (newest_first cut values (suc i)) ≡ take n (newest_first unbroken values (suc i))
take-newest cut values i n h =
    ap (take n) (newest-begins cut values (suc i))
    ∙ take-take n (length (newest_first cut values (suc i))) (newest_first unbroken values (suc i)) (omega (arith, length-since cut values i))

-- ---- the values next to each other, with a cut more

module _ (cut : ℕ → Bool) (q : ℕ) (values : List Float) where
  -- ahead of it nothing changes
  newest-ahead : (n : ℕ) → n ≤ q → newest_first (or_at cut q) values n ≡ newest_first cut values n
  unfolding newest_first
  newest-ahead zero h = refl
  newest-ahead (suc i) h =
      ap₂ (λ (b : Bool) (w : List Float). get_or values i nan ∷ cond b [] w)
      (ap (λ (b : Bool). cut i || b) (ne_eqb q i (λ e. omega arith)) ∙ or-false (cut i)) (newest-ahead i (omega arith))

  here : (i : ℕ) → q ≡ i → newest_first (or_at cut q) values (suc i) ≡ take (suc i - q) (newest_first cut values (suc i))
  unfolding newest_first
  here i e =
      let only : 1 ≡ suc i - q = omega arith in
      ap (λ (b : Bool). get_or values i nan ∷ cond b [] (newest_first (or_at cut q) values i)) (ap (λ (b : Bool). cut i || b) (eq-eqb q i e) ∙ or-true (cut i))
      ∙ ap (λ (k : ℕ). take k (newest_first cut values (suc i))) only

  -- behind it are the values back to it
  newest-behind : (i : ℕ) → q ≤ i → newest_first (or_at cut q) values (suc i) ≡ take (suc i - q) (newest_first cut values (suc i))
  unfolding newest_first
  newest-behind zero h = here 0 (omega arith)
  newest-behind (suc i) h = by (eqb q (suc i)) refl (λ back. newest-behind i back)
    where
      taken : (b : Bool) (v : Float) (k : ℕ) (w : List Float) → v ∷ cond b [] (take k w) ≡ take (suc k) (v ∷ cond b [] w)
      taken true v zero w = refl
      taken true v (suc k) w = refl
      taken false v k w = refl

      back : (q ≡ suc i → ⊥) → q ≤ i
      back other = omega arith

      by : (b : Bool) → eqb q (suc i) ≡ b → (q ≤ i → newest_first (or_at cut q) values (suc i) ≡ take (suc i - q) (newest_first cut values (suc i)))
          → newest_first (or_at cut q) values (suc (suc i)) ≡ take (suc (suc i) - q) (newest_first cut values (suc (suc i)))
      by true e ih = here (suc i) (eqb-true q (suc i) e)
      by false e ih =
          let before = back (eqb-false q (suc i) e) in
          let one : suc (suc i - q) ≡ suc (suc i) - q = omega arith in
          ap₂ (λ (b : Bool) (w : List Float). get_or values (suc i) nan ∷ cond b [] w)
          (ap (λ (b : Bool). cut (suc i) || b) e ∙ or-false (cut (suc i))) (ih before)
          ∙ taken (cut (suc i)) (get_or values (suc i) nan) (suc i - q) (newest_first cut values (suc i))
          ∙ ap (λ (k : ℕ). take k (newest_first cut values (suc (suc i)))) one

-- ---- what the code does to the marks in their room

-- a cut past the last mark
pub cut-past : (q : ℕ) (ms : List ℕ) → length ms ≤ q → ms ≡ cut_marks q ms
unfolding cut_marks
cut-past q ms h =
    let f : ℕ → ℕ = λ i. cut_mark q i (get_or ms i 0) in
    ext_get_or 0 ms (tabulate f (length ms)) (sym (length-tabulate f (length ms)))
    (λ i k. sym (get_d_tabulate f (length ms) i 0 k ∙ simp (lt-ltb i q (omega arith))))

-- the marks from q on were lent, and the first k of them fitted
module _ (q k : ℕ) (ms part : List ℕ) (inside : q < length ms) (few : k ≤ 14) (there : k ≤ length ms - q)
    (all : (i : ℕ) → i < 14 → i < length ms - q → i < k)
    (fitted : part ≡ at_front (tabulate (λ i. bit_and (get_or (lent ms q) i 0) (fits_at (0 + i))) k) (lent ms q)) where
  abbrev fit : ℕ → ℕ
  fit i = bit_and (get_or (lent ms q) i 0) (fits_at (0 + i))

  long : length (regained ms q part) ≡ length ms
  long =
      let room : length (lent ms q) ≡ length ms - q = part-long ms q (length ms) (omega arith) in
      let rest = drop (length (tabulate fit k)) (lent ms q) in
      let none = drop (length ms - q) (drop q ms) in
      omega (
        arith,
        length-append (take q ms) (part ++ none),
        length-append part none,
        length-take-le q ms (omega arith),
        ap length fitted,
        length-append (tabulate fit k) rest,
        length-tabulate fit k,
        length-drop (length (tabulate fit k)) (lent ms q),
        length-drop (length ms - q) (drop q ms),
        length-drop q ms,
      )

  -- behind the cut
  entry : (j : ℕ) → q + j < length ms → get_or part j 0 ≡ cond (ltb j 14) (bit_and (get_or ms (q + j) 0) (fits_at j)) (get_or ms (q + j) 0)
  entry j h = ap (λ (xs : List ℕ). get_or xs j 0) fitted ∙ by (ltb j 14) refl
    where
      by : (b : Bool) → ltb j 14 ≡ b
          → get_or (at_front (tabulate fit k) (lent ms q)) j 0 ≡ cond b (bit_and (get_or ms (q + j) 0) (fits_at j)) (get_or ms (q + j) 0)
      by true e =
          let small : j < k = all j (ltb-true j 14 e) (omega arith) in
          get_or-append (tabulate fit k) _ 0 j (omega (arith, length-tabulate fit k))
          ∙ get_d_tabulate fit k j 0 small
          ∙ ap₂ bit_and (lent_at ms q j) (ap fits_at (zero-add j))
      by false e =
          let large : 14 ≤ j = ltb-false j 14 e in
          let past : length (tabulate fit k) + (j - length (tabulate fit k)) ≡ j = omega (arith, length-tabulate fit k) in
          ap (λ (m : ℕ). get_or (at_front (tabulate fit k) (lent ms q)) m 0) (sym past)
          ∙ get_or-append-add (tabulate fit k) (drop (length (tabulate fit k)) (lent ms q)) (j - length (tabulate fit k)) 0
          ∙ get_or-drop (length (tabulate fit k)) (lent ms q) (j - length (tabulate fit k)) 0
          ∙ ap (λ (m : ℕ). get_or (lent ms q) m 0) past
          ∙ lent_at ms q j

  pub cut-lent : regained ms q part ≡ cut_marks q ms
  unfolding cut_marks
  cut-lent =
      let f : ℕ → ℕ = λ i. cut_mark q i (get_or ms i 0) in
      ext_get_or 0 (regained ms q part) (tabulate f (length ms)) (long ∙ sym (length-tabulate f (length ms)))
      (λ i h. by i (omega (arith, long)) (ltb i q) refl ∙ sym (get_d_tabulate f (length ms) i 0 (omega (arith, long))))
    where
      by : (i : ℕ) → i < length ms → (b : Bool) → ltb i q ≡ b
          → get_or (regained ms q part) i 0 ≡ cond b (get_or ms i 0) (cond (ltb (i - q) 14) (bit_and (get_or ms i 0) (fits_at (i - q))) (get_or ms i 0))
      by i h true e = regained-before ms q part (omega arith) i (ltb-true i q e)
      by i h false e =
          let behind : q ≤ i = ltb-false i q e in
          let is : q + (i - q) ≡ i = omega arith in
          ap (λ (m : ℕ). get_or (regained ms q part) m 0) (sym is)
          ∙ regained-at ms q part (omega arith) (i - q)
          ∙ entry (i - q) (omega arith)
          ∙ ap (λ (m : ℕ). cond (ltb (i - q) 14) (bit_and (get_or ms m 0) (fits_at (i - q))) (get_or ms m 0)) is

-- ---- marks

-- of the first k values of the past
stands-within : (l : Lines) (t : Test) (k : ℕ) (past : List Float) → stands l (take k past) t ≡ (leb (window t) k && stands l past t)
unfolding stands
stands-within l t k past = by (leb k (length past)) (leb (window t) k) refl refl
  where
    by : (b c : Bool) → leb k (length past) ≡ b → leb (window t) k ≡ c
        → (leb (window t) (length (take k past)) && shows t l (take (window t) (take k past))) ≡ (c && (leb (window t) (length past) && shows t l (take (window t) past)))
    by true true e f =
        let few = leb-true k (length past) e in
        let fits = leb-true (window t) k f in
        ap₂ (λ (b : Bool) (w : List Float). b && shows t l w)
        (ap (leb (window t)) (length-take-le k past few) ∙ f ∙ sym (le-leb (window t) (length past) (omega arith)))
        (take-take (window t) k past fits)
    by true false e f =
        ap (λ (b : Bool). b && shows t l (take (window t) (take k past))) (ap (leb (window t)) (length-take-le k past (leb-true k (length past) e)) ∙ f)
    by false true e f =
        ap (λ (w : List Float). leb (window t) (length w) && shows t l (take (window t) w)) (take_all k past (omega (arith, leb-false k (length past) e)))
    by false false e f =
        ap (λ (w : List Float). leb (window t) (length w) && shows t l (take (window t) w)) (take_all k past (omega (arith, leb-false k (length past) e)))
        ∙ ap (λ (b : Bool). b && shows t l (take (window t) past))
        (lt-leb (window t) (length past) (omega (arith, leb-false k (length past) e, leb-false (window t) k f)))

-- the tests are left whose window fits in k values
fitted : (l : Lines) (set k : ℕ) (past : List Float)
    → bit_and (set_of (λ t. has set t && stands l past t)) (fitting k) ≡ set_of (λ t. has set t && stands l (take k past) t)
fitted l set k past =
    and_comm (set_of (λ t. has set t && stands l past t)) (fitting k)
    ∙ and-set_of (fitting k) (λ t. has set t && stands l past t)
    ∙ ap set_of (fun_ext (λ t. ap (λ (b : Bool). b && (has set t && stands l past t)) (fits-window k t)
    ∙ and-swap (leb (window t) k) (has set t) (stands l past t)
    ∙ ap (λ (b : Bool). has set t && b) (sym (stands-within l t k past))))

module _ (l : Lines) (set : ℕ) (values : List Float) where
  -- Marks with stops are the marks without, less the tests whose window is longer than the values that stand next to each other.
  pub marks-masked : (cut : ℕ → Bool) (i : ℕ) → bit_and (marks_at unbroken l set values i) (fitting (suc i - since cut i)) ≡ marks_at cut l set values i
  unfolding marks_at
  marks-masked cut i =
      fitted l set (suc i - since cut i) (newest_first unbroken values (suc i))
      ∙ ap (λ (w : List Float). set_of (λ t. has set t && stands l w t))
      (sym (newest-begins cut values (suc i) ∙ ap (λ (k : ℕ). take k (newest_first unbroken values (suc i))) (length-since cut values i)))

  module _ (cut : ℕ → Bool) (q i : ℕ) where
    ahead-of-it : i < q → marks_at cut l set values i ≡ marks_at (or_at cut q) l set values i
    unfolding marks_at
    ahead-of-it h = ap (λ (w : List Float). set_of (λ t. has set t && stands l w t)) (sym (newest-ahead cut q values (suc i) h))

    behind-it : q ≤ i → bit_and (marks_at cut l set values i) (fitting (suc i - q)) ≡ marks_at (or_at cut q) l set values i
    unfolding marks_at
    behind-it h =
        fitted l set (suc i - q) (newest_first cut values (suc i))
        ∙ ap (λ (w : List Float). set_of (λ t. has set t && stands l w t)) (sym (newest-behind cut q values i h))

    -- from the fifteenth on all fit
    far-behind : q ≤ i → 15 ≤ suc i - q → marks_at cut l set values i ≡ marks_at (or_at cut q) l set values i
    unfolding marks_at
    far-behind h far =
        ap set_of (fun_ext (λ t. ap (λ (b : Bool). has set t && b)
        (sym (stands-within l t (suc i - q) (newest_first cut values (suc i))
        ∙ ap (λ (b : Bool). b && stands l (newest_first cut values (suc i)) t) (le-leb (window t) (suc i - q) (omega (arith, window-most t)))))))
        ∙ ap (λ (w : List Float). set_of (λ t. has set t && stands l w t)) (sym (newest-behind cut q values i h))

    cut-mark : cut_mark q i (marks_at cut l set values i) ≡ marks_at (or_at cut q) l set values i
    cut-mark = by (ltb i q) (ltb (i - q) 14) refl refl
      where
        by : (b c : Bool) → ltb i q ≡ b → ltb (i - q) 14 ≡ c
            → cond b (marks_at cut l set values i) (cond c (bit_and (marks_at cut l set values i) (fits_at (i - q))) (marks_at cut l set values i))
            ≡ marks_at (or_at cut q) l set values i
        by true c e f = ahead-of-it (ltb-true i q e)
        by false true e f =
            let behind : q ≤ i = ltb-false i q e in
            let one : suc (i - q) ≡ suc i - q = omega arith in
            ap (bit_and (marks_at cut l set values i)) (fits-are (i - q) (ltb-true (i - q) 14 f) ∙ ap fitting one) ∙ behind-it behind
        by false false e f =
            let behind : q ≤ i = ltb-false i q e in
            far-behind behind (omega (arith, ltb-false (i - q) 14 f))

  marks-more : (cut : ℕ → Bool) (q : ℕ) → cut_marks q (marks_by cut l set values) ≡ marks_by (or_at cut q) l set values
  unfolding cut_marks
  marks-more cut q =
      let n = length values in
      let f = marks_at cut l set values in
      ap (tabulate (λ i. cut_mark q i (get_or (tabulate f n) i 0))) (length-tabulate f n)
      ∙ same-tabulate (λ i. cut_mark q i (get_or (tabulate f n) i 0)) (marks_at (or_at cut q) l set values) n
      (λ i h. ap (cut_mark q i) (get_d_tabulate f n i 0 h) ∙ cut-mark cut q i)

  -- The same as the code does it, cut by cut.
  pub marks-stops : (stops : List ℕ) (moving : Bool) → by_stops cut_marks stops moving (marks_by unbroken l set values) ≡ marks_by (cut_at stops moving) l set values
  marks-stops stops moving = by-stops cut_marks (λ cut. marks_by cut l set values) marks-more stops moving unbroken

  -- the marks were lent, and what reaches over the stops taken out of them
  pub parted : (stops : List ℕ) (moving : Bool) (old filled part : List ℕ) → filled ≡ at_front (marks_by unbroken l set values) old
      → part ≡ by_stops cut_marks stops moving (take (length values) filled)
      → part ++ drop (length values) filled ≡ at_front (marks_by (cut_at stops moving) l set values) old
  parted stops moving old filled part was is =
      let n = length values in
      let before = marks_by unbroken l set values in
      let long : length before ≡ n = length-tabulate (marks_at unbroken l set values) n in
      let rest = drop (length before) old in
      let lent_is : take n filled ≡ before = ap (take n) was ∙ take_at before rest n long in
      let rest-is : drop n filled ≡ rest = ap (drop n) was ∙ drop_at before rest n long in
      ap₂ ◌++◌ (is ∙ ap (by_stops cut_marks stops moving) lent_is ∙ marks-stops stops moving)
      (rest-is ∙ ap (λ (k : ℕ). drop k old) (long ∙ sym (length-tabulate (marks_at (cut_at stops moving) l set values) n)))
