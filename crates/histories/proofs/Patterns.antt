-- What a lane's marks mean: after any values from a fresh start they are those of 01's patterns, for every test at once, by the reading of
-- tests off columns that marking rests on too; and the last fifteen values decide. Assumes nothing.
use mathlib.Core.Path.{◌≡◌, refl, sym, ap, ap₂, ◌∙◌, fun_ext}
use mathlib.Core.Bool.{Bool, true, false, ◌&&◌}
use mathlib.Core.List.{List, [], ◌∷◌, map}
use Prim.Native.Nat.{ℕ, zero, suc, ◌≤◌}
use native.Mathlib.Omega.{arith}
use borrow.Author.Tests.{le-leb, lt-leb, leb-true, leb-false}
use lib.Dec.{leb}
use lib.Ieee.{Float}
use lib.ListN.{length, take, get_or}
use Rattle.sets.specs.declared.Test.{Test}
use Rattle.sets.specs.Sets.{has, set_of}
use Rattle.rules.specs.declared.Lines.{Lines}
use Rattle.rules.specs.Tests.{rise, fall, steps, window}
use Rattle.rules.specs.Marking.{stands}
use Rattle.rules.specs.Columns.{Signal, signs, Begins, Column, up_of, down_of}
use Rattle.rules.specs.Columns.Signal.{Outside, OverCentre, UnderCentre, Rising, Falling, OverOne, UnderOne, OverTwo, UnderTwo, InsideOne, OutsideOne}
use Rattle.rules.proofs.Columns.{judged, window-most}
use Rattle.rules.proofs.Blocks.{near}
use Rattle.histories.specs.declared.Lane.{Lane}
use Rattle.histories.specs.Lanes.{kept, lane_of, column, pushed, newest, held, after, fresh}
use Rattle.histories.specs.Taking.{read, shown, marks_at}
use Rattle.histories.specs.Runs.{fed}
use Rattle.histories.proofs.Bits.{begins-on}

-- ---- the histories are columns, signal by signal; all else goes for every signal and every test at once

kept-lane_of : (f : Signal → ℕ) (last : Float) (seen : ℕ) (s : Signal) → kept (lane_of f last seen) s ≡ f s
unfolding kept
kept-lane_of f last seen Outside = refl
kept-lane_of f last seen OverCentre = refl
kept-lane_of f last seen UnderCentre = refl
kept-lane_of f last seen Rising = refl
kept-lane_of f last seen Falling = refl
kept-lane_of f last seen OverOne = refl
kept-lane_of f last seen UnderOne = refl
kept-lane_of f last seen OverTwo = refl
kept-lane_of f last seen UnderTwo = refl
kept-lane_of f last seen InsideOne = refl
kept-lane_of f last seen OutsideOne = refl

-- nothing begins any column
begins-none : (bs : List Bool) → Begins [] bs
begins-none bs zero small few = refl
begins-none bs (suc n) small few = absurd (omega arith)

-- A signal speaks of where a value lies, or of the step to it.
data Speaks : (List Float → List Bool) → Type 0 where
  OfZone : (p : Float → Bool) → Speaks (map p)
  OfStep : (r : Float → Float → Bool) → Speaks (steps r)

speaks : (l : Lines) (s : Signal) → Speaks (signs l s)
unfolding signs
speaks l Outside = OfZone _
speaks l OverCentre = OfZone _
speaks l UnderCentre = OfZone _
speaks l Rising = OfStep rise
speaks l Falling = OfStep fall
speaks l OverOne = OfZone _
speaks l UnderOne = OfZone _
speaks l OverTwo = OfZone _
speaks l UnderTwo = OfZone _
speaks l InsideOne = OfZone _
speaks l OutsideOne = OfZone _

-- what is said of the first value v: a zone begins with it, a step has yet none
first_said : {says : List Float → List Bool} → Speaks says → (u v : Float) (h : ℕ)
    → Begins (says (v ∷ [])) (column (pushed (get_or (says (v ∷ u ∷ [])) 0 false) h))
unfolding steps
first_said (OfZone p) u v h = begins-on (p v) h [] (begins-none _)
first_said (OfStep r) u v h = begins-none _

-- of the next: it comes before what was said
next-said : {says : List Float → List Bool} → Speaks says → (u v : Float) (past : List Float)
    → says (v ∷ u ∷ past) ≡ get_or (says (v ∷ u ∷ [])) 0 false ∷ says (u ∷ past)
unfolding steps
next-said (OfZone p) u v past = refl
next-said (OfStep r) u v past = refl

module _ (l : Lines) where
  -- the histories after some values are their columns
  columns : (v : Float) (past : List Float) (s : Signal) → Column l (v ∷ past) s (column (kept (fed l (v ∷ past)) s))
  unfolding fed after
  columns v [] s =
      rw (kept-lane_of (λ s. pushed (newest l fresh.last v s) (kept fresh s)) v (held (suc fresh.seen)) s)
      (first_said (speaks l s) fresh.last v (kept fresh s))
  columns v (u ∷ past) s =
      let lane = fed l (u ∷ past) in
      rw (kept-lane_of (λ s. pushed (newest l u v s) (kept lane s)) v (held (suc lane.seen)) s, next-said (speaks l s) u v past)
      (begins-on (newest l u v s) (kept lane s) (signs l s (u ∷ past)) (columns u past s))

  seen-is : (past : List Float) → (fed l past).seen ≡ held (length past)
  unfolding fed after fresh
  seen-is [] = refl
  seen-is (v ∷ past) = omega (arith, seen-is past)

  -- "A forged number of values seen over 15 counts as 15."
  pub forged : (lane : Lane) (v : Float) → 15 ≤ lane.seen → after l lane v ≡ after l (lane_of (kept lane) lane.last 15) v
  unfolding after
  forged lane v over =
      let same : held (suc lane.seen) ≡ held (suc 15) = omega arith in
      ap₂ (λ (f : Signal → ℕ) (n : ℕ). lane_of f v n)
      (fun_ext (λ (s : Signal). ap (pushed (newest l lane.last v s)) (sym (kept-lane_of (kept lane) lane.last 15 s)))) same

  -- a window is within so many values exactly if it is within as many, held at 15
  held_fits : (n : ℕ) (t : Test) → leb (window t) (held n) ≡ leb (window t) n
  held_fits n t = by (leb (window t) n) refl
    where
      by : (b : Bool) → leb (window t) n ≡ b → leb (window t) (held n) ≡ b
      by true e = le-leb (window t) (held n) (omega (arith, window-most t, leb-true (window t) n e))
      by false e = lt-leb (window t) (held n) (omega (arith, leb-false (window t) n e))

  -- A test is shown after some values exactly if its window that ends at the newest fits and shows its pattern.
  pub shown-stands : (v : Float) (past : List Float) (t : Test) → shown (fed l (v ∷ past)) t ≡ stands l (v ∷ past) t
  unfolding shown
  shown-stands v past t =
      ap (λ (b : Bool). b && read (fed l (v ∷ past)) t) (ap (leb (window t)) (seen-is (v ∷ past)) ∙ held_fits (length (v ∷ past)) t)
      ∙ judged l (v ∷ past) t (column (kept (fed l (v ∷ past)) (up_of t))) (column (kept (fed l (v ∷ past)) (down_of t)))
      (columns v past (up_of t)) (columns v past (down_of t))

  -- After any values, however many, a lane's marks are the tests of the set that stand there.
  pub marks-stand : (set : ℕ) (v : Float) (past : List Float) → marks_at set (fed l (v ∷ past)) ≡ set_of (λ t. has set t && stands l (v ∷ past) t)
  unfolding marks_at
  marks-stand set v past = ap set_of (fun_ext (λ (t : Test). ap (λ (b : Bool). has set t && b) (shown-stands v past t)))

  -- The last fifteen values decide.
  pub marks-near : (set : ℕ) (v w : Float) (past other : List Float) → take 15 (v ∷ past) ≡ take 15 (w ∷ other)
      → marks_at set (fed l (v ∷ past)) ≡ marks_at set (fed l (w ∷ other))
  marks-near set v w past other same =
      marks-stand set v past
      ∙ ap set_of (fun_ext (λ (t : Test). ap (λ (b : Bool). has set t && b)
      (sym (near l t (v ∷ past)) ∙ ap (λ (xs : List Float). stands l xs t) same ∙ near l t (w ∷ other))))
      ∙ sym (marks-stand set w other)
