-- Reading columns: where each test of a set has its two columns, what is read off them, less the tests whose window does not fit, are the
-- tests of the set that stand. An engine proves its columns, and a further test its row in `judged`. Assumes nothing.
use mathlib.Core.Path.{◌≡◌, refl, sym, ap, ap₂, ◌∙◌, fun_ext}
use mathlib.Core.Bool.{Bool, true, false, ◌&&◌, ◌||◌, or_self}
use mathlib.Core.List.{List, map}
use Prim.Native.Nat.{ℕ, suc, ◌≤◌, ◌<◌}
use native.Mathlib.Omega.{arith}
use borrow.Author.Tests.{le-leb, leb-true}
use lib.Bits.{bit_and, and_comm}
use lib.Dec.{leb}
use lib.Ieee.{Float, le}
use lib.ListN.{length, take, get_or, length-map}
use lib.Seq.{ext_get_or, get_or-take, length-take-le}
use Rattle.laws.specs.Bools.{every}
use Rattle.laws.specs.Bits.{from_bits}
use Rattle.sets.specs.declared.Test.{Test}
use Rattle.sets.specs.declared.Test.TheVariants.{BeyondLimits, NineOneSide, SixTrend, FourteenAlternating, TwoOfThreeBeyond2Sigma, FourOfFiveBeyond1Sigma, FifteenWithin1Sigma, EightBeyond1Sigma, EightOneSide}
use Rattle.sets.specs.Sets.{tests, has, set_of}
use Rattle.sets.proofs.Sets.{agree, has-set_of, and-set_of}
use Rattle.rules.specs.declared.Lines.{Lines}
use Rattle.rules.specs.Tests.{over, under, all, at_least, rise, fall, steps, alternating, window, shows}
use Rattle.rules.specs.Marking.{stands}
use Rattle.rules.specs.Columns.{signs, Begins, Column, first, some, by_turns, judge, rule_of, up_of, down_of, read_off, fitting}
use Rattle.rules.proofs.Windows.{and-swap, behind, all_of, some_of, enough-steps, steps_of, turns-of}

-- a list that agrees entry by entry begins so
pub begins-by : (xs bs : List Bool) → 15 ≤ length bs → ((k : ℕ) → k < 15 → k < length xs → get_or bs k false ≡ get_or xs k false) → Begins xs bs
begins-by xs bs long same n h q =
    let here : length (take n bs) ≡ n = length-take-le n bs (omega arith) in
    ext_get_or false (take n bs) (take n xs) (here ∙ sym (length-take-le n xs q))
    (λ k p. get_or-take n bs k false (omega arith) ∙ same k (omega arith) (omega arith) ∙ sym (get_or-take n xs k false (omega arith)))

-- ---- by two columns

module _ (past : List Float) (up down : List Bool) (n : ℕ) (small : n ≤ 15) where
  module _ (p q : Float → Bool) (one : Begins (map p past) up) (other : Begins (map q past) down) where
    fits : (r : Float → Bool) → leb n (length past) ≡ true → n ≤ length (map r past)
    fits r e = rw (length-map past r) (leb-true n (length past) e)

    all_either : (leb n (length past) && (first n up || first n down)) ≡ (leb n (length past) && (all p (take n past) || all q (take n past)))
    all_either =
        behind (leb n (length past)) (first n up || first n down) (all p (take n past) || all q (take n past))
        (λ e. ap₂ ◌||◌ (all_of p n past up (one n small (fits p e))) (all_of q n past down (other n small (fits q e))))

    some-either : (k : ℕ) → (leb n (length past) && (some k n up || some k n down)) ≡ (leb n (length past) && (at_least k p (take n past) || at_least k q (take n past)))
    some-either k =
        behind (leb n (length past)) (some k n up || some k n down) (at_least k p (take n past) || at_least k q (take n past))
        (λ e. ap₂ ◌||◌ (some_of p n past up (one n small (fits p e)) k) (some_of q n past down (other n small (fits q e)) k))

  all_same : (p : Float → Bool) → Begins (map p past) up → Begins (map p past) down
      → (leb n (length past) && (first n up || first n down)) ≡ (leb n (length past) && all p (take n past))
  all_same p one other = all_either p p one other ∙ ap (λ (b : Bool). leb n (length past) && b) (or_self (all p (take n past)))

  module _ (one : Begins (steps rise past) up) (other : Begins (steps fall past) down) where
    long : (r : Float → Float → Bool) → leb (suc n) (length past) ≡ true → n ≤ length (steps r past)
    long r e = enough-steps r n past (leb-true (suc n) (length past) e)

    steps-either : (leb (suc n) (length past) && (first n up || first n down))
        ≡ (leb (suc n) (length past) && (every (steps rise (take (suc n) past)) || every (steps fall (take (suc n) past))))
    steps-either =
        behind (leb (suc n) (length past)) (first n up || first n down) (every (steps rise (take (suc n) past)) || every (steps fall (take (suc n) past)))
        (λ e. ap₂ ◌||◌ (steps_of rise n past up (one n small (long rise e))) (steps_of fall n past down (other n small (long fall e))))

    turns-either : (leb (suc n) (length past) && (by_turns n up down || by_turns n down up))
        ≡ (leb (suc n) (length past) && (alternating true (take (suc n) past) || alternating false (take (suc n) past)))
    turns-either =
        behind (leb (suc n) (length past)) (by_turns n up down || by_turns n down up) (alternating true (take (suc n) past) || alternating false (take (suc n) past))
        (λ e. ap₂ ◌||◌
        (turns-of true n past up down (leb-true (suc n) (length past) e) (one n small (long rise e)) (other n small (long fall e)))
        (turns-of false n past down up (leb-true (suc n) (length past) e) (other n small (long fall e)) (one n small (long rise e))))

-- ---- the tests, row by row; all else goes for every test at once

module _ (l : Lines) (past : List Float) where
  -- A test that fits, judged by its columns, stands.
  pub judged : (t : Test) (up down : List Bool) → Column l past (up_of t) up → Column l past (down_of t) down
      → (leb (window t) (length past) && judge (rule_of t) up down) ≡ stands l past t
  unfolding stands window shows judge rule_of up_of down_of signs
  judged BeyondLimits up down one other = all_same past up down 1 (omega arith) (λ v. over l.ucl v || under l.lcl v) one other
  judged NineOneSide up down one other = all_either past up down 9 (omega arith) (over l.cl) (under l.cl) one other
  judged SixTrend up down one other = steps-either past up down 5 (omega arith) one other
  judged FourteenAlternating up down one other = turns-either past up down 13 (omega arith) one other
  judged TwoOfThreeBeyond2Sigma up down one other = some-either past up down 3 (omega arith) (over l.above2) (under l.below2) one other 2
  judged FourOfFiveBeyond1Sigma up down one other = some-either past up down 5 (omega arith) (over l.above1) (under l.below1) one other 4
  judged FifteenWithin1Sigma up down one other = all_same past up down 15 (omega arith) (λ v. le l.below1 v && le v l.above1) one other
  judged EightBeyond1Sigma up down one other = all_same past up down 8 (omega arith) (λ v. over l.above1 v || under l.below1 v) one other
  judged EightOneSide up down one other = all_either past up down 8 (omega arith) (over l.cl) (under l.cl) one other

pub window-most : (t : Test) → window t ≤ 15
unfolding tests window
window-most t = leb-true (window t) 15 (agree (λ (u : Test). leb (window u) 15) (λ (u : Test). true) true refl t)

pub fits-window : (n : ℕ) (t : Test) → has (fitting n) t ≡ leb (window t) n
unfolding fitting
fits-window n t = has-set_of (λ u. leb (window u) n) t

module _ (l : Lines) (past : List Float) (ups downs : Test → List Bool) where
  -- each test that p names has its two columns
  abbrev pub Columns : (Test → Bool) → Type 0
  Columns p = (t : Test) → p t ≡ true → Column l past (up_of t) (ups t) × Column l past (down_of t) (downs t)

  abbrev reads : Test → Bool
  reads t = judge (rule_of t) (ups t) (downs t)

  module _ (set : ℕ) (given : Columns (has set)) where
    row : from_bits (read_off ups downs) ≡ set_of reads
    unfolding read_off set_of
    row = refl

    -- The marks of a set: what is read off its columns, less the tests whose window does not fit.
    pub reads-marks : (n : ℕ) → n ≡ length past → bit_and (bit_and set (from_bits (read_off ups downs))) (fitting n) ≡ set_of (λ t. has set t && stands l past t)
    reads-marks n many =
        ap (λ (m : ℕ). bit_and m (fitting n)) (ap (bit_and set) row ∙ and-set_of set reads)
        ∙ and_comm (set_of (λ t. has set t && reads t)) (fitting n)
        ∙ and-set_of (fitting n) (λ t. has set t && reads t)
        ∙ ap set_of (fun_ext each)
      where
        fit_is : (t : Test) → has (fitting n) t ≡ leb (window t) (length past)
        fit_is t = fits-window n t ∙ ap (leb (window t)) many

        each : (t : Test) → (has (fitting n) t && (has set t && reads t)) ≡ (has set t && stands l past t)
        each t =
            ap (λ (b : Bool). b && (has set t && reads t)) (fit_is t)
            ∙ and-swap (leb (window t) (length past)) (has set t) (reads t)
            ∙ behind (has set t) (leb (window t) (length past) && reads t) (stands l past t)
            (λ e. judged l past t (ups t) (downs t) (given t e).0 (given t e).1)

    -- The same from the fifteenth value on, where every window fits.
    pub reads-far : 15 ≤ length past → bit_and set (from_bits (read_off ups downs)) ≡ set_of (λ t. has set t && stands l past t)
    reads-far far = ap (bit_and set) row ∙ and-set_of set reads ∙ ap set_of (fun_ext each)
      where
        each : (t : Test) → (has set t && reads t) ≡ (has set t && stands l past t)
        each t =
            behind (has set t) (reads t) (stands l past t)
            (λ e. ap (λ (b : Bool). b && reads t) (sym (le-leb (window t) (length past) (omega (arith, window-most t))))
            ∙ judged l past t (ups t) (downs t) (given t e).0 (given t e).1)
