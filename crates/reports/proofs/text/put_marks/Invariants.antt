-- `text::put_marks` meets its contract: the lines of the points from i on are to come. Assumes nothing.
use Rattle.reports.specs.Text.{v_lines, listed}
use Rattle.reports.proofs.Marks.{listed_from}
use mathlib.Core.Bool.{not}
use lib.Dec.{eqb}
use Rattle.reports.proofs.Putting.{Coming}
use Rattle.reports.proofs.text.put_marks.Given as goal

abbrev pub invariant-loop-i : goal.invariant-loop-i
invariant-loop-i g l =
    Coming (not (eqb g.row.WRITE 0)) (v_lines (listed l.series l.first l.marks)) l.initial.to l.initial.out (v_lines (listed_from l.series l.first l.marks l.i)) l.to l.out
