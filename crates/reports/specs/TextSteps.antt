-- What the parts of the writer of lines find. Nothing here has to be believed: the proofs tie it to Text.antt. Definitions only.
use Rattle.std.specs.Prelude.{Bool, true, cond, ◌≡◌, List, [], ◌∷◌, ℕ, suc, ◌≤◌, ltb, length, set}
use Rattle.charts.specs.declared.Chart.{Chart}
use Rattle.evaluating.specs.declared.Evaluation.{Evaluation}
use Rattle.rules.specs.Finite.{finite_limits}
use Rattle.rules.specs.Marking.{most}
use Rattle.reports.specs.declared.text.Word.{Word}
use Rattle.reports.specs.declared.text.Word.TheVariants.{Decimal, Hex}
use Rattle.reports.specs.Text.{decimal, digits, both_marks, chart_text}

-- ---- bytes from a place of a room on

-- one byte: the place past it, which is one past the room's end where the room does not reach so far, and the room, where it is written
abbrev pub put_byte : Bool → ℕ → ℕ × List ℕ → ℕ × List ℕ
put_byte write b r = (cond (ltb r.0 (length r.1)) (suc r.0) (suc (length r.1)), cond write (set r.1 r.0 b) r.1)

-- one after the other
unfoldable pub puts : Bool → List ℕ → ℕ × List ℕ → ℕ × List ℕ
puts write [] r = r
puts write (b ∷ bs) r = puts write bs (put_byte write b r)

-- bytes were put from a place of the room `old` on: the place past them, and the room afterwards
pub record Put (write : Bool) (bytes : List ℕ) (at : ℕ) (old : List ℕ) (next : ℕ) (new : List ℕ) : Type 0 where
  pub is : ◌≡◌ {A = ℕ × List ℕ} (next, new) (puts write bytes (at, old))

-- ---- words

-- a number as a word: its decimal digits, or all its hex ones
abbrev pub word_of : Word → List ℕ
word_of (Decimal x) = decimal x
word_of (Hex x) = digits 16 16 x

-- the words of a line
unfoldable pub words_of : List Word → List (List ℕ)
words_of [] = []
words_of (w ∷ ws) = word_of w ∷ words_of ws

-- ---- a chart

-- What is told of a chart: finite limits, no more marks than a chart has points and tests, and their number. The first index of the
-- second series is 0 or 1.
pub record Tells (e : Evaluation) (first : ℕ) (marks others : List ℕ) : Type 0 where
  pub main : finite_limits e.main ≡ true
  pub dispersion : finite_limits e.dispersion ≡ true
  pub few : length marks ≤ most
  pub few_others : length others ≤ most
  pub start : first ≤ 1
  pub number : e.marks ≡ length (both_marks first marks others)

abbrev pub text_by : Chart → Evaluation → ℕ → List ℕ → List ℕ → List ℕ
text_by c e first marks others = chart_text c.kind c.size c.set.mask e.main e.dispersion (both_marks first marks others)
