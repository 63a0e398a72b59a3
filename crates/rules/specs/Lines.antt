-- The lines of a chart: its limits and the zone lines (01, 'The nine tests', after the table; 02, R-5). Definitions only.
use Rattle.std.specs.Prelude.{pos, eqb, ltb, Bool, false, cond, ℕ, Float}
use Rattle.std.specs.Float.{fin, binary64}
use Rattle.std.specs.Float.Ieee.{add, sub, mul, div}
use Rattle.rules.specs.declared.Limits.{Limits}
use Rattle.rules.specs.declared.Widths.{Widths}
use Rattle.rules.specs.declared.Lines.{Lines}

-- 21: a width "mode not 0 or 1"
abbrev pub width_wrong : ℕ → Bool
width_wrong width = ltb 1 width

-- ---- the widths of a side, each operation rounded

-- s, of the distance of a limit from the centre line: a third of it, d / 3.0
unfoldable pub one_sigma : Float → Float
one_sigma d = div binary64 d (fin false 3 (pos 0))

-- t = 2.0 * s
unfoldable pub two_sigma : Float → Float
two_sigma d = mul binary64 (fin false 1 (pos 1)) (one_sigma d)

-- those of both sides, of the distances above and below
abbrev pub widths_by : Float → Float → Widths
widths_by up down = record { above1 = one_sigma up; above2 = two_sigma up; below1 = one_sigma down; below2 = two_sigma down }

-- ---- the zone widths

-- "above from ucl - cl"
abbrev pub upward : Limits → Float
upward l = sub binary64 l.ucl l.cl

-- "below from cl - lcl" in width mode 1; in mode 0, "the old way", the same widths serve below
abbrev pub downward : ℕ → Limits → Float
downward width l = cond (eqb width 1) (sub binary64 l.cl l.lcl) (upward l)

-- "four: one and two sigma above .., one and two below"
abbrev pub widths_of : ℕ → Limits → Widths
widths_of width l = widths_by (upward l) (downward width l)

-- ---- the lines

-- cl + s, cl - s, cl + t and cl - t beside the limits, with the widths of each side
abbrev pub lines_by : Limits → Widths → Lines
lines_by l w = record {
  ucl = l.ucl;
  cl = l.cl;
  lcl = l.lcl;
  above1 = add binary64 l.cl w.above1;
  below1 = sub binary64 l.cl w.below1;
  above2 = add binary64 l.cl w.above2;
  below2 = sub binary64 l.cl w.below2;
}

unfoldable pub lines_of : ℕ → Limits → Lines
lines_of width l = lines_by l (widths_of width l)
