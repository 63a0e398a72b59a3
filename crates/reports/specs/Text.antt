-- The lines of a report (01, 'The report program', the worked example and what follows it). Definitions only.
use Rattle.std.specs.Prelude.{true, false, cond, List, [], ◌∷◌, ◌++◌, ℕ, zero, suc, ◌+◌, ◌/◌, ◌%◌, ltb, Float, length}
use Rattle.std.specs.Float.{binary64}
use Rattle.std.specs.Float.Ieee.{to_bits}
use Rattle.sets.specs.declared.Test.{Test}
use Rattle.sets.specs.Sets.{bit_of, tests, has}
use Rattle.rules.specs.declared.Limits.{Limits}

-- ---- numbers

-- the character of a digit below sixteen: 0 to 9, then a to f
unfoldable pub glyph : ℕ → ℕ
glyph d = cond (ltb d 10) (48 + d) (87 + d)

-- The decimal digits of x. The first number only makes the recursion end: it is at least x, so a digit with more in front never meets zero.
unfoldable pub decimal_in : ℕ → ℕ → List ℕ
decimal_in zero x = glyph x ∷ []
decimal_in (suc k) x = elim (ltb x 10) [ true ↦ glyph x ∷ [] | false ↦ decimal_in k (x / 10) ++ (glyph (x % 10) ∷ []) ]

-- the decimal digits of a number, the highest first, with no zero in front
unfoldable pub decimal : ℕ → List ℕ
unfolding decimal_in
decimal x = decimal_in x x

-- its last k digits in a base, the highest first
unfoldable pub digits : ℕ → ℕ → ℕ → List ℕ
digits base zero x = []
digits base (suc k) x = digits base k (x / base) ++ (glyph (x % base) ∷ [])

-- "Bits are sixteen lower-case hex digits."
abbrev pub bits : Float → List ℕ
bits v = digits 16 16 (to_bits binary64 v)

-- ---- lines: a letter, each word with a space in front of it, and the line's end

unfoldable pub spaced : List (List ℕ) → List ℕ
spaced [] = 10 ∷ []
spaced (w ∷ ws) = 32 ∷ (w ++ spaced ws)

abbrev pub line : ℕ → List (List ℕ) → List ℕ
line letter words = letter ∷ spaced words

-- "C: kind, size, set."
abbrev pub c_line : ℕ → ℕ → ℕ → List ℕ
c_line kind size set = line 67 (decimal kind ∷ decimal size ∷ decimal set ∷ [])

-- "L: series, bits of ucl, cl, lcl."
abbrev pub l_line : ℕ → Limits → List ℕ
l_line series l = line 76 (decimal series ∷ bits l.ucl ∷ bits l.cl ∷ bits l.lcl ∷ [])

abbrev pub e_line : ℕ → List ℕ
e_line n = line 69 (decimal n ∷ [])

-- "A refusal prints one line: `R`, a space, the number."
abbrev pub r_line : ℕ → List ℕ
r_line n = line 82 (decimal n ∷ [])

-- ---- "V: series, index, test, in order of series, index, test."

-- a series, an index in it, a test
pub data Mark : Type 0 where
  mark : ℕ → ℕ → Test → Mark

abbrev pub v_line : Mark → List ℕ
v_line (mark series index t) = line 86 (decimal series ∷ decimal index ∷ decimal (bit_of t) ∷ [])

unfoldable pub v_lines : List Mark → List ℕ
v_lines [] = []
v_lines (v ∷ vs) = v_line v ++ v_lines vs

-- those of some tests that the marks m of a point have
unfoldable pub marks_in : ℕ → ℕ → ℕ → List Test → List Mark
marks_in series index m [] = []
marks_in series index m (t ∷ ts) = cond (has m t) (mark series index t ∷ []) [] ++ marks_in series index m ts

-- the marks of one point
abbrev pub point_marks : ℕ → ℕ → ℕ → List Mark
point_marks series index m = marks_in series index m tests

-- the marks of a series whose first index is given
unfoldable pub listed : ℕ → ℕ → List ℕ → List Mark
listed series index [] = []
listed series index (m ∷ ms) = point_marks series index m ++ listed series (suc index) ms

-- the marks of both series; those of a moving range series start at index 1
abbrev pub both_marks : ℕ → List ℕ → List ℕ → List Mark
both_marks first marks others = listed 0 0 marks ++ listed 1 first others

-- ---- the text of a chart

-- "E: number of V lines."
unfoldable pub chart_text : ℕ → ℕ → ℕ → Limits → Limits → List Mark → List ℕ
chart_text kind size set main dispersion marks =
    c_line kind size set ++ (l_line 0 main ++ (l_line 1 dispersion ++ (v_lines marks ++ e_line (length marks))))
