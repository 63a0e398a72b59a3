-- The bits of a code say how its value lies, and fifteen codes have the columns of the set's tests. Assumes nothing.
use mathlib.Core.Path.{◌≡◌, refl, sym, ap, ap₂, ◌∙◌}
use mathlib.Core.Bool.{Bool, true, false, not, ◌&&◌, ◌||◌, and-true, and-false, or-false, false≢true}
use mathlib.Core.List.{List, [], ◌∷◌, map}
use Prim.Native.Nat.{ℕ, zero, suc, ◌-◌, ◌/◌, ◌%◌, ◌^◌, ◌≤◌, ◌<◌}
use native.Mathlib.Nat.{le_of_suc-le-suc}
use native.Mathlib.Omega.{arith}
use borrow.Author.Tests.{eqb-true}
use lib.Bits.{bit_and}
use lib.Dec.{eqb}
use lib.Ieee.{Float, nan, le}
use lib.ListN.{length, get_or, length-map}
use Rattle.laws.specs.Bits.{has_bit}
use Rattle.laws.proofs.Bits.{has-and, has-or}
use Rattle.laws.proofs.OneBit.{no-bit}
use Rattle.sets.specs.declared.Test.{Test}
use Rattle.sets.specs.declared.Test.TheVariants.{BeyondLimits, NineOneSide, SixTrend, FourteenAlternating, TwoOfThreeBeyond2Sigma, FourOfFiveBeyond1Sigma, FifteenWithin1Sigma, EightBeyond1Sigma, EightOneSide}
use Rattle.sets.specs.Sets.{tests, bit_of, has}
use Rattle.sets.proofs.Sets.{agree}
use Rattle.stops.specs.Cuts.{unbroken}
use Rattle.rules.specs.declared.Lines.{Lines}
use Rattle.rules.specs.Tests.{over, under, rise, fall, steps}
use Rattle.rules.specs.Marking.{newest_first}
use Rattle.rules.specs.Columns.{Signal, signs, Column, up_of, down_of}
use Rattle.rules.specs.Columns.Signal.{Outside, OverCentre, UnderCentre, Rising, Falling, OverOne, UnderOne, OverTwo, UnderTwo, InsideOne, OutsideOne}
use Rattle.rules.specs.Codes.{picked, zone_code, inside_code, step_code, asks, code_of, code_at, column, down_bit}
use Rattle.rules.proofs.Columns.{begins-by, Columns}

-- ---- the signal of one value

-- that of the value v after u
sign : Lines → Signal → Float → Float → Bool
sign l Outside u v = over l.ucl v || under l.lcl v
sign l OverCentre u v = over l.cl v
sign l UnderCentre u v = under l.cl v
sign l Rising u v = rise u v
sign l Falling u v = fall u v
sign l OverOne u v = over l.above1 v
sign l UnderOne u v = under l.below1 v
sign l OverTwo u v = over l.above2 v
sign l UnderTwo u v = under l.below2 v
sign l InsideOne u v = le l.below1 v && le v l.above1
sign l OutsideOne u v = over l.above1 v || under l.below1 v

-- entry k of a list of signals is that of entry k of the values
at_map : {A : Type 0} (f : A → Bool) (d : A) (xs : List A) (k : ℕ) → k < length (map f xs) → (k < length xs) × (get_or (map f xs) k false ≡ f (get_or xs k d))
at_map f d [] k h = absurd (omega arith)
at_map f d (x ∷ xs) zero h = (omega arith, refl)
at_map f d (x ∷ xs) (suc k) h = let there = at_map f d xs k (le_of_suc-le-suc h) in (omega (arith, there.0), there.1)

at-steps : (r : Float → Float → Bool) (d : Float) (past : List Float) (k : ℕ) → k < length (steps r past)
    → (k < length past) × (get_or (steps r past) k false ≡ r (get_or past (suc k) d) (get_or past k nan))
unfolding steps
at-steps r d [] k h = absurd (omega arith)
at-steps r d (v ∷ []) k h = absurd (omega arith)
at-steps r d (v ∷ u ∷ w) zero h = (omega arith, refl)
at-steps r d (v ∷ u ∷ w) (suc k) h = let there = at-steps r d (u ∷ w) k (le_of_suc-le-suc h) in (omega (arith, there.0), there.1)

-- what comes before the oldest value, d, does not matter
signs-at : (l : Lines) (s : Signal) (d : Float) (past : List Float) (k : ℕ) → k < length (signs l s past)
    → (k < length past) × (get_or (signs l s past) k false ≡ sign l s (get_or past (suc k) d) (get_or past k nan))
unfolding signs sign
signs-at l Outside d past k h = at_map _ nan past k h
signs-at l OverCentre d past k h = at_map _ nan past k h
signs-at l UnderCentre d past k h = at_map _ nan past k h
signs-at l Rising d past k h = at-steps rise d past k h
signs-at l Falling d past k h = at-steps fall d past k h
signs-at l OverOne d past k h = at_map _ nan past k h
signs-at l UnderOne d past k h = at_map _ nan past k h
signs-at l OverTwo d past k h = at_map _ nan past k h
signs-at l UnderTwo d past k h = at_map _ nan past k h
signs-at l InsideOne d past k h = at_map _ nan past k h
signs-at l OutsideOne d past k h = at_map _ nan past k h

-- ---- the bits of a code

-- a number that is written out has a bit
abbrev bit_in : ℕ → ℕ → Bool
bit_in k s = eqb (k / 2 ^ s % 2) 1

has-picked : (b : Bool) (k s : ℕ) → has_bit (picked b k) s ≡ (bit_in k s && b)
unfolding has_bit
has-picked true k s = sym (and-true (bit_in k s))
has-picked false k s = no-bit s ∙ sym (and-false (bit_in k s))

has-needed : (need : Bool) (n s : ℕ) → has_bit (picked need n) s ≡ (need && has_bit n s)
has-needed true n s = refl
has-needed false n s = no-bit s

has-zone : (high low : Float) (up down : ℕ) (v : Float) (s : ℕ)
    → has_bit (zone_code high low up down v) s ≡ ((bit_in up s && over high v) || (bit_in down s && under low v))
unfolding zone_code
has-zone high low up down v s =
    has-or (picked (over high v) up) (picked (under low v) down) s
    ∙ ap₂ ◌||◌ (has-picked (over high v) up s) (has-picked (under low v) down s)

has-inside : (high low : Float) (v : Float) (s : ℕ) → has_bit (inside_code high low v) s ≡ (bit_in 64 s && (le low v && le v high))
unfolding inside_code
has-inside high low v s = has-picked (le low v && le v high) 64 s

has-step : (u v : Float) (s : ℕ) → has_bit (step_code u v) s ≡ ((bit_in 12 s && rise u v) || (bit_in 3072 s && fall u v))
unfolding step_code
has-step u v s =
    has-or (picked (rise u v) 12) (picked (fall u v) 3072) s ∙ ap₂ ◌||◌ (has-picked (rise u v) 12 s) (has-picked (fall u v) 3072 s)

-- the tests of the family that makes the signals of a test
family_of : Test → ℕ
family_of BeyondLimits = 1
family_of NineOneSide = 258
family_of SixTrend = 12
family_of FourteenAlternating = 12
family_of TwoOfThreeBeyond2Sigma = 16
family_of FourOfFiveBeyond1Sigma = 160
family_of FifteenWithin1Sigma = 64
family_of EightBeyond1Sigma = 160
family_of EightOneSide = 258

module _ (asked : ℕ → Bool) (l : Lines) (u v : Float) where
  -- what bit s of each family says
  abbrev zone : Bool → Float → Float → ℕ → ℕ → ℕ → Bool
  zone need high low up down s = need && ((bit_in up s && over high v) || (bit_in down s && under low v))

  has_code : (s : ℕ) → has_bit (code_of asked l u v) s
      ≡ ((((((false || zone (asked 1) l.ucl l.lcl 1 1 s)
      || zone (asked 258) l.cl l.cl 258 16896 s)
      || zone (asked 16) l.above2 l.below2 16 4096 s)
      || zone (asked 160) l.above1 l.below1 160 8320 s)
      || (asked 64 && (bit_in 64 s && (le l.below1 v && le v l.above1))))
      || (asked 12 && ((bit_in 12 s && rise u v) || (bit_in 3072 s && fall u v))))
  unfolding code_of
  has_code s = simp (has-or, has-needed, has-zone, has-inside, has-step, no-bit)

  up-bit : (t : Test) → has_bit (code_of asked l u v) (bit_of t) ≡ (asked (family_of t) && sign l (up_of t) u v)
  unfolding bit_of family_of up_of sign
  up-bit BeyondLimits = has_code 0 ∙ simp (and-false, or-false)
  up-bit NineOneSide = has_code 1 ∙ simp (and-false, or-false)
  up-bit SixTrend = has_code 2 ∙ simp (and-false, or-false)
  up-bit FourteenAlternating = has_code 3 ∙ simp (and-false, or-false)
  up-bit TwoOfThreeBeyond2Sigma = has_code 4 ∙ simp (and-false, or-false)
  up-bit FourOfFiveBeyond1Sigma = has_code 5 ∙ simp (and-false, or-false)
  up-bit FifteenWithin1Sigma = has_code 6 ∙ simp (and-false, or-false)
  up-bit EightBeyond1Sigma = has_code 7 ∙ simp (and-false, or-false)
  up-bit EightOneSide = has_code 8 ∙ simp (and-false, or-false)

  down-bit : (t : Test) → has_bit (code_of asked l u v) (down_bit t) ≡ (asked (family_of t) && sign l (down_of t) u v)
  unfolding down_bit family_of down_of sign
  down-bit BeyondLimits = has_code 0 ∙ simp (and-false, or-false)
  down-bit NineOneSide = has_code 9 ∙ simp (and-false, or-false)
  down-bit SixTrend = has_code 10 ∙ simp (and-false, or-false)
  down-bit FourteenAlternating = has_code 11 ∙ simp (and-false, or-false)
  down-bit TwoOfThreeBeyond2Sigma = has_code 12 ∙ simp (and-false, or-false)
  down-bit FourOfFiveBeyond1Sigma = has_code 13 ∙ simp (and-false, or-false)
  down-bit FifteenWithin1Sigma = has_code 6 ∙ simp (and-false, or-false)
  down-bit EightBeyond1Sigma = has_code 7 ∙ simp (and-false, or-false)
  down-bit EightOneSide = has_code 14 ∙ simp (and-false, or-false)

-- a set asks for the families of its tests
asks-has : (set : ℕ) (t : Test) → has set t ≡ true → asks set (family_of t) ≡ true
asks-has set t e = by (eqb (bit_and set (family_of t)) 0) refl
  where
    both : has_bit (bit_and set (family_of t)) (bit_of t) ≡ true
    both =
        let in-set : has_bit set (bit_of t) ≡ true = unfold has in e in
        let in-family : has_bit (family_of t) (bit_of t) ≡ true =
        unfold family_of bit_of tests has_bit in agree (λ (u : Test). bit_in (family_of u) (bit_of u)) (λ (u : Test). true) true refl t in
        has-and set (family_of t) (bit_of t) ∙ ap₂ ◌&&◌ in-set in-family

    by : (b : Bool) → eqb (bit_and set (family_of t)) 0 ≡ b → asks set (family_of t) ≡ true
    by true q =
        absurd (false≢true (sym (no-bit (bit_of t)) ∙ ap (λ (n : ℕ). has_bit n (bit_of t)) (sym (eqb-true (bit_and set (family_of t)) 0 q)) ∙ both))
    by false q = ap not q

-- ---- the values before a position

newest-at : (values : List Float) (p k : ℕ) → k ≤ p → get_or (newest_first unbroken values (suc p)) k nan ≡ get_or values (p - k) nan
unfolding newest_first
newest-at values p zero h = let e : p ≡ p - 0 = omega arith in ap (λ (j : ℕ). get_or values j nan) e
newest-at values zero (suc k) h = absurd (omega arith)
newest-at values (suc p) (suc k) h =
    let e : p - k ≡ suc p - suc k = omega arith in
    newest-at values p k (le_of_suc-le-suc h) ∙ ap (λ (j : ℕ). get_or values j nan) e

-- and what comes before each of them, d before the first
prior-at : (values : List Float) (d : Float) (p k : ℕ) → k ≤ p → get_or (newest_first unbroken values (suc p)) (suc k) d ≡ get_or (d ∷ values) (p - k) nan
unfolding newest_first
prior-at values d zero zero h = refl
prior-at values d zero (suc k) h = absurd (omega arith)
prior-at values d (suc p) zero h = let e : suc p ≡ suc p - 0 = omega arith in ap (λ (j : ℕ). get_or (d ∷ values) j nan) e
prior-at values d (suc p) (suc k) h =
    let e : p - k ≡ suc p - suc k = omega arith in
    prior-at values d p k (le_of_suc-le-suc h) ∙ ap (λ (j : ℕ). get_or (d ∷ values) j nan) e

pub length-newest : (values : List Float) (n : ℕ) → length (newest_first unbroken values n) ≡ n
unfolding newest_first
length-newest values zero = refl
length-newest values (suc n) = ap suc (length-newest values n)

-- ---- the columns of the codes

-- ws are the fifteen codes that end at position p, newest first, as far as there are values
module _ (set : ℕ) (l : Lines) (values : List Float) (p : ℕ) (ws : List ℕ) (fifteen : length ws ≡ 15)
    (are : (k : ℕ) → k < 15 → k ≤ p → get_or ws k 0 ≡ code_at set l (get_or values 0 nan) values (p - k)) where
  abbrev past : List Float
  past = newest_first unbroken values (suc p)

  shown : (s : Signal) (b : ℕ) → ((u v : Float) → has_bit (code_of (asks set) l u v) b ≡ sign l s u v) → Column l past s (column b ws)
  shown s b says = begins-by (signs l s past) (column b ws) (omega (arith, length-map ws (λ c. has_bit c b))) (λ k h q.
      let sign-is = signs-at l s (get_or values 0 nan) past k q in
      let there : k ≤ p = omega (arith, sign-is.0, length-newest values (suc p)) in
      (at_map (λ c. has_bit c b) 0 ws k (omega (arith, length-map ws (λ c. has_bit c b)))).1
      ∙ ap (λ (c : ℕ). has_bit c b) (are k h there)
      ∙ says (get_or (get_or values 0 nan ∷ values) (p - k) nan) (get_or values (p - k) nan)
      ∙ sym (sign-is.1 ∙ ap₂ (sign l s) (prior-at values (get_or values 0 nan) p k there) (newest-at values p k there)))

  -- each test of the set has its two columns
  pub codes-show : Columns l past (λ t. column (bit_of t) ws) (λ t. column (down_bit t) ws) (has set)
  codes-show t e =
      let asked : asks set (family_of t) ≡ true = asks-has set t e in (
        shown (up_of t) (bit_of t) (λ u v. up-bit (asks set) l u v t ∙ ap (λ (b : Bool). b && sign l (up_of t) u v) asked),
        shown (down_of t) (down_bit t) (λ u v. down-bit (asks set) l u v t ∙ ap (λ (b : Bool). b && sign l (down_of t) u v) asked),
      )
