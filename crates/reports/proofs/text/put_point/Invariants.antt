-- `text::put_point` meets its contract: the lines of the tests from t on are to come. Assumes nothing.
use Rattle.reports.specs.Text.{v_lines}
use Rattle.reports.proofs.Marks.{marks_from}
use mathlib.Core.Bool.{not}
use lib.Dec.{eqb}
use Rattle.reports.proofs.Putting.{Coming}
use Rattle.reports.proofs.text.put_point.Given as goal

abbrev pub invariant-loop-t : goal.invariant-loop-t
invariant-loop-t g l =
    Coming (not (eqb g.row.WRITE 0)) (v_lines (marks_from l.series l.index l.m 0)) l.initial.to l.initial.out (v_lines (marks_from l.series l.index l.m l.t)) l.to l.out
