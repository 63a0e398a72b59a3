-- `text::put_line` meets its contract: the words from i on are to come. Assumes nothing.
use mathlib.Core.Bool.{not}
use lib.Dec.{eqb}
use Rattle.reports.proofs.Putting.{Coming}
use Rattle.reports.proofs.Words.{words_left}
use Rattle.reports.proofs.text.put_line.Given as goal

abbrev pub invariant-loop-word : goal.invariant-loop-word
invariant-loop-word g l =
    Coming (not (eqb g.row.WRITE 0)) (words_left l.words 0) l.initial.to l.initial.out (words_left l.words l.word-index) l.to l.out
