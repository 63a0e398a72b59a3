-- What is kept of a lane, and what one value more makes of it (02, R-3). Definitions only.
use Rattle.std.specs.Prelude.{Bool, false, List, [], ◌∷◌, ℕ, suc, ◌+◌, ◌*◌, ◌%◌, ◌^◌, min, Float, get_or}
use Rattle.laws.specs.Bools.{one}
use Rattle.laws.specs.Bits.{has_bit}
use Rattle.laws.specs.Lists.{tabulate}
use Rattle.floats.specs.Values.{plus_zero}
use Rattle.rules.specs.declared.Lines.{Lines}
use Rattle.rules.specs.Columns.{Signal, signs}
use Rattle.rules.specs.Columns.Signal.{Outside, OverCentre, UnderCentre, Rising, Falling, OverOne, UnderOne, OverTwo, UnderTwo, InsideOne, OutsideOne}
use Rattle.histories.specs.declared.Lane.{Lane}

-- ---- "for each zone and each step direction a u16 history"

unfoldable pub kept : Lane → Signal → ℕ
kept lane Outside = lane.beyond
kept lane OverCentre = lane.above
kept lane UnderCentre = lane.below
kept lane Rising = lane.rising
kept lane Falling = lane.falling
kept lane OverOne = lane.above1
kept lane UnderOne = lane.below1
kept lane OverTwo = lane.above2
kept lane UnderTwo = lane.below2
kept lane InsideOne = lane.within1
kept lane OutsideOne = lane.beyond1

-- the lane of these histories, this last value and so many values seen
abbrev pub lane_of : (Signal → ℕ) → Float → ℕ → Lane
lane_of history last seen = record {
  last = last;
  beyond = history Outside;
  above = history OverCentre;
  below = history UnderCentre;
  rising = history Rising;
  falling = history Falling;
  above1 = history OverOne;
  below1 = history UnderOne;
  above2 = history OverTwo;
  below2 = history UnderTwo;
  within1 = history InsideOne;
  beyond1 = history OutsideOne;
  seen = seen;
}

-- the bits of a history, the newest first: as many as the longest window has values
abbrev pub column : ℕ → List Bool
column h = tabulate (has_bit h) 15

-- ---- one value more

-- "shifted by one for each value": the newest in bit 0
unfoldable pub pushed : Bool → ℕ → ℕ
pushed b h = h % 2 ^ 15 * 2 + one b

-- what a signal says of v, which comes after u
abbrev pub newest : Lines → Float → Float → Signal → Bool
newest l u v s = get_or (signs l s (v ∷ u ∷ [])) 0 false

-- "the number of values seen, held at 15"
abbrev pub held : ℕ → ℕ
held n = min n 15

-- the lane after the value v
unfoldable pub after : Lines → Lane → Float → Lane
after l lane v = lane_of (λ s. pushed (newest l lane.last v s) (kept lane s)) v (held (suc lane.seen))

-- "a fresh start"
unfoldable pub fresh : Lane
fresh = lane_of (λ s. 0) plus_zero 0
