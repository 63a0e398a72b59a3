-- The window behind a mark, marked as a series of its own by a set with one test: it gets that mark exactly where the window in its
-- series shows the pattern. Assumes nothing.
use mathlib.Core.Path.{◌≡◌, refl, sym, ap, ap₂, ◌∙◌}
use mathlib.Core.Bool.{Bool, true, false, not, ◌&&◌, cond, and-false}
use mathlib.Core.List.{List, [], ◌∷◌, ◌++◌}
use Prim.Native.Nat.{ℕ, zero, suc, ◌+◌, ◌-◌, ◌^◌, ◌≤◌, ◌<◌}
use native.Mathlib.Nat.{add-suc}
use native.Mathlib.Omega.{arith}
use borrow.Author.Tests.{le-leb, lt-leb, leb-true, lt-ltb, le-ltb, eq-eqb}
use lib.Bits.{and_comm}
use lib.Pow.{pow-lt}
use lib.Dec.{leb, eqb}
use lib.Ieee.{Float, nan}
use lib.ListN.{length, take, drop, get_or, replicate, length-drop, get_or-append}
use lib.Seq.{get_or-take, get_or-drop, take-suc, take_all, length-take-le}
use Rattle.std.specs.Prelude.{Some, None}
use Rattle.laws.specs.Bools.{every}
use Rattle.laws.specs.Front.{at_front}
use Rattle.laws.proofs.OneBit.{test-pow}
use Rattle.sets.specs.declared.Test.{Test}
use Rattle.sets.specs.Sets.{bit_of, tests, test_of, test_at, has, set_of}
use Rattle.sets.proofs.Sets.{agree, bit_of-lt, was-found, was-nothing, has-set_of, and-set_of}
use Rattle.stops.specs.Stops.{since, stops_wrong, main_points}
use Rattle.stops.specs.Cuts.{unbroken}
use Rattle.stops.proofs.Rising.{none-wrong}
use Rattle.stops.proofs.Cuts.{no-stops}
use Rattle.rules.specs.declared.Limits.{Limits}
use Rattle.rules.specs.Terms.{Terms, alone}
use Rattle.rules.specs.Lines.{width_wrong, lines_of}
use Rattle.rules.specs.Tests.{window, shows}
use Rattle.floats.specs.Finite.{finite, all_finite}
use Rattle.rules.specs.Finite.{finite_limits}
use Rattle.rules.specs.Marking.{newest_first, stands, marks_at, cuts_of, lines_for, marks_of, answer_of, marks_after}
use Rattle.evidence.specs.Evidence.{shown_at}
use Rattle.evidence.specs.Steps.{shows_alone}
use Rattle.rules.proofs.Columns.{window-most}
use Rattle.rules.proofs.Stopped.{length-since, take-newest}
use Rattle.rules.proofs.Meaning.{length-marks, marks-at}
use Rattle.rules.proofs.Accepted.{room-enough, only-finite}

-- ---- a window as a series of its own

pub length-newest : (values : List Float) (k : ℕ) → length (newest_first unbroken values k) ≡ k
unfolding newest_first
length-newest values zero = refl
length-newest values (suc k) = ap suc (length-newest values k)

newest-part : (values : List Float) (s n k : ℕ) → k ≤ n → newest_first unbroken (take n (drop s values)) k ≡ take k (newest_first unbroken values (s + k))
unfolding newest_first
newest-part values s n zero h = refl
newest-part values s n (suc k) h =
    ap₂ ◌∷◌ (get_or-take n (drop s values) k nan h ∙ get_or-drop s values k nan) (newest-part values s n k (omega arith))
    ∙ ap (λ (m : ℕ). take (suc k) (newest_first unbroken values m)) (sym (add-suc s k))

-- values are finite in either order of time
newest-finite : (values : List Float) (k : ℕ) → k ≤ length values → all_finite (newest_first unbroken values k) ≡ all_finite (take k values)
unfolding newest_first all_finite every
newest-finite values zero h = refl
newest-finite values (suc k) h =
    ap (λ (b : Bool). finite (get_or values k nan) && b) (newest-finite values k (omega arith))
    ∙ sym (ap all_finite (take-suc values k nan h) ∙ with-last (take k values) (get_or values k nan))
  where
    swap : (a b c : Bool) → (a && (b && c)) ≡ (b && (a && c))
    swap true b c = refl
    swap false b c = sym (and-false b)

    with-last : (xs : List Float) (v : Float) → all_finite (xs ++ (v ∷ [])) ≡ (finite v && all_finite xs)
    with-last [] v = refl
    with-last (x ∷ xs) v = ap (λ (b : Bool). finite x && b) (with-last xs v) ∙ swap (finite x) (finite v) (all_finite xs)

-- the n values that end at a position, as a part of the series
abbrev pub part_to : ℕ → ℕ → List Float → List Float
part_to n at values = take n (drop (suc at - n) values)

-- the part of a window that no cut parts, newest first, is the window
module _ (cut : ℕ → Bool) (values : List Float) (at n : ℕ) (next : n ≤ suc at - since cut at) where
  part-newest : newest_first unbroken (part_to n at values) n ≡ take n (newest_first cut values (suc at))
  part-newest =
      let end : suc at - n + n ≡ suc at = omega arith in
      newest-part values (suc at - n) n n (omega arith)
      ∙ ap (λ (m : ℕ). take n (newest_first unbroken values m)) end
      ∙ sym (take-newest cut values at n next)

  pub length_part : at < length values → length (part_to n at values) ≡ n
  length_part h = length-take-le n (drop (suc at - n) values) (omega (arith, length-drop (suc at - n) values))

  part-finite : at < length values → all_finite (take n (newest_first cut values (suc at))) ≡ all_finite (part_to n at values)
  part-finite h =
      let part = part_to n at values in
      ap all_finite (sym part-newest)
      ∙ newest-finite part n (omega (arith, length_part h))
      ∙ ap all_finite (take_all n part (omega (arith, length_part h)))

-- a window of the test's own length shows its pattern exactly where the test stands there
module _ (width : ℕ) (limits : Limits) (t : Test) where
  stands-alone : (values : List Float) → stands (lines_of width limits) (newest_first unbroken values (window t)) t ≡ shows t (lines_of width limits) (newest_first unbroken values (window t))
  unfolding stands
  stands-alone values =
      let w = newest_first unbroken values (window t) in
      let long : length w ≡ window t = length-newest values (window t) in
      ap₂ (λ (b : Bool) (x : List Float). b && shows t (lines_of width limits) x) (le-leb (window t) (length w) (omega (arith, long)))
      (take_all (window t) w (omega (arith, long)))

  pub stands-behind : (cut : ℕ → Bool) (values : List Float) (at : ℕ) → window t ≤ suc at - since cut at
      → stands (lines_of width limits) (newest_first cut values (suc at)) t ≡ shows t (lines_of width limits) (newest_first unbroken (part_to (window t) at values) (window t))
  unfolding stands
  stands-behind cut values at h =
      let past = newest_first cut values (suc at) in
      ap (λ (b : Bool). b && shows t (lines_of width limits) (take (window t) past)) (le-leb (window t) (length past) (omega (arith, length-since cut values at)))
      ∙ ap (λ (w : List Float). shows t (lines_of width limits) w) (sym (part-newest cut values at (window t) h))

  -- ---- the mark of a set with this test alone

  pub mark-alone : (values : List Float) (i : ℕ) → suc i ≡ window t
      → not (eqb (marks_at unbroken (lines_of width limits) (2 ^ bit_of t) values i) 0) ≡ shows t (lines_of width limits) (newest_first unbroken values (window t))
  unfolding marks_at
  mark-alone values i e =
      let p : Test → Bool = stands (lines_of width limits) (newest_first unbroken values (suc i)) in
      ap (λ (m : ℕ). not (eqb m 0)) (sym (and-set_of (2 ^ bit_of t) p) ∙ and_comm (2 ^ bit_of t) (set_of p))
      ∙ test-pow (set_of p) (bit_of t)
      ∙ unfold has in has-set_of p t
      ∙ ap (λ (k : ℕ). stands (lines_of width limits) (newest_first unbroken values k) t) e
      ∙ stands-alone values

-- ---- the window marked as a series of its own

window-least : (t : Test) → 1 ≤ window t
unfolding tests window
window-least t = leb-true 1 (window t) (agree (λ (u : Test). leb 1 (window u)) (λ (u : Test). true) true refl t)

-- `part` has the length of the test's window
pub part-bounds : (t : Test) (part : List Float) → length part ≡ window t → (1 ≤ length part) × (length part ≤ 15)
part-bounds t part long = (omega (arith, window-least t), omega (arith, window-most t))

module _ (limits : Limits) (width : ℕ) (t : Test) (part : List Float) (long : length part ≡ window t) (set : ℕ) (one : set ≡ 2 ^ bit_of t) where
  -- by itself it has no stops
  abbrev terms : Terms
  terms = alone limits width

  -- the mode and the finite decide whether it is refused
  by-finite : answer_of terms set part 15 ≡ cond (width_wrong width) 21 (cond (finite_limits limits && all_finite part) 0 3)
  by-finite =
      let small : 2 ^ bit_of t < 2 ^ 9 = pow-lt (bit_of-lt t) in
      let few = (part-bounds t part long).1 in
      room-enough terms set part 15 (λ h. few) ∙ only-finite terms set part (omega arith) (none-wrong (length part)) (omega arith)

  pub refused-alone : (answer_of terms set part 15 ≡ 0 → ⊥) → false ≡ shows_alone limits width t part
  refused-alone h = by (width_wrong width) (finite_limits limits) (all_finite part) _ by-finite
    where
      by : (w f a x : Bool) → answer_of terms set part 15 ≡ cond w 21 (cond (f && a) 0 3) → false ≡ (not w && (f && (a && x)))
      by true f a x e = refl
      by false true true x e = absurd (h e)
      by false true false x e = refl
      by false false a x e = refl

  last-mark : answer_of terms set part 15 ≡ 0
      → not (eqb (get_or (marks_after terms set part (replicate 15 0)) (length part - 1) 0) 0) ≡ shows t (lines_of width limits) (newest_first unbroken part (length part))
  unfolding marks_after
  last-mark e =
      let old = replicate {A = ℕ} 15 0 in
      let i = length part - 1 in
      let least = (part-bounds t part long).0 in
      let last : suc i ≡ window t = omega arith in
      let marks = marks_of terms set part in
      let within : i < length marks = omega (arith, length-marks terms set part) in
      ap (λ (b : Bool). not (eqb (get_or (cond b (at_front marks old) old) i 0) 0)) (eq-eqb _ _ e)
      ∙ ap (λ (m : ℕ). not (eqb m 0)) (get_or-append marks (drop (length marks) old) 0 i within ∙ marks-at terms set part i (omega arith))
      ∙ ap₂ (λ (cut : ℕ → Bool) (k : ℕ). not (eqb (marks_at cut (lines_of width limits) k part i) 0)) (no-stops false) one
      ∙ mark-alone width limits t part i last
      ∙ ap (λ (k : ℕ). shows t (lines_of width limits) (newest_first unbroken part k)) (sym long)

  pub marked-alone : answer_of terms set part 15 ≡ 0
      → not (eqb (get_or (marks_after terms set part (replicate 15 0)) (length part - 1) 0) 0) ≡ shows_alone limits width t part
  marked-alone done = by (width_wrong width) (finite_limits limits) (all_finite part) _ _ by-finite (last-mark done)
    where
      by : (w f a x y : Bool) → answer_of terms set part 15 ≡ cond w 21 (cond (f && a) 0 3) → y ≡ x → y ≡ (not w && (f && (a && x)))
      by true f a x y e is = absurd (omega arith)
      by false true true x y e is = is
      by false true false x y e is = absurd (omega arith)
      by false false a x y e is = absurd (omega arith)

-- ---- what is shown at a position

module _ (series : List Float) (terms : Terms) (at bit : ℕ) where
  pub past-the-series : length series ≤ at → shown_at series terms at bit ≡ false
  unfolding shown_at
  past-the-series h = simp (le-ltb at (length series) h)

  pub no-such-test : test_at bit ≡ None → shown_at series terms at bit ≡ false
  unfolding shown_at tests
  no-such-test e = simp (le-ltb bit 9 (was-nothing bit e), and-false)

  pub mode-is-wrong : width_wrong terms.width ≡ true → shown_at series terms at bit ≡ false
  unfolding shown_at
  mode-is-wrong e = simp (e, and-false)

  pub stops-are-wrong : stops_wrong (main_points terms.moving (length series)) terms.stops ≡ true → shown_at series terms at bit ≡ false
  unfolding shown_at
  stops-are-wrong e = simp (e, and-false)

  shown-by-window : at < length series → stops_wrong (main_points terms.moving (length series)) terms.stops ≡ false → bit < 9
      → window (test_of bit) ≤ suc at - since (cuts_of terms) at
      → shown_at series terms at bit
      ≡ (not (width_wrong terms.width)
      && (finite_limits terms.limits
      && (all_finite (part_to (window (test_of bit)) at series)
      && shows (test_of bit) (lines_for terms) (newest_first unbroken (part_to (window (test_of bit)) at series) (window (test_of bit))))))
  unfolding shown_at tests
  shown-by-window h g k w =
      simp (lt-ltb at (length series) h, lt-ltb bit 9 k, g)
      (ap₂ (λ (a b : Bool). not (width_wrong terms.width) && (finite_limits terms.limits && (a && b))) (part-finite (cuts_of terms) series at (window (test_of bit)) w h)
      (stands-behind terms.width terms.limits (test_of bit) (cuts_of terms) series at w))

  -- the test that the code finds, and the n values of its window
  module _ (t : Test) (is : test_at bit ≡ Some t) (n : ℕ) (long : n ≡ window t) where
    same : test_of bit ≡ t
    same = (was-found bit t is).1

    longs : n ≡ window (test_of bit)
    longs = long ∙ ap window (sym same)

    pub no-such-window : suc at - since (cuts_of terms) at < n → shown_at series terms at bit ≡ false
    unfolding shown_at stands
    no-such-window h =
        let past = newest_first (cuts_of terms) series (suc at) in
        simp (lt-leb (window (test_of bit)) (length past) (omega (arith, longs, length-since (cuts_of terms) series at)), and-false)

    pub shown-by-part : at < length series → stops_wrong (main_points terms.moving (length series)) terms.stops ≡ false
        → n ≤ suc at - since (cuts_of terms) at
        → shows_alone terms.limits terms.width t (take (at + 1 - (at + 1 - n)) (drop (at + 1 - n) series)) ≡ shown_at series terms at bit
    shown-by-part h g w =
        let m = window (test_of bit) in
        let next : m ≤ suc at - since (cuts_of terms) at = omega (arith, longs) in
        let length-is : at + 1 - (at + 1 - n) ≡ m = omega (arith, longs) in
        let start : at + 1 - n ≡ suc at - m = omega (arith, longs) in
        ap (λ (u : Test). shows_alone terms.limits terms.width u (take (at + 1 - (at + 1 - n)) (drop (at + 1 - n) series))) (sym same)
        ∙ ap (shows_alone terms.limits terms.width (test_of bit)) (ap₂ (λ (x y : ℕ). take x (drop y series)) length-is start)
        ∙ ap (λ (k : ℕ). not (width_wrong terms.width) && (finite_limits terms.limits
        && (all_finite (part_to m at series) && shows (test_of bit) (lines_for terms) (newest_first unbroken (part_to m at series) k))))
        (length_part (cuts_of terms) series at m next h)
        ∙ sym (shown-by-window h g (was-found bit t is).0 next)
