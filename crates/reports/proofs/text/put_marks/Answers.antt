-- `text::put_marks` meets its contract: the lines of the points from i on are to come. Assumes nothing.
use mathlib.Core.Path.{sym, ap}
use Rattle.reports.specs.Text.{v_lines}
use Rattle.reports.proofs.Marks.{listed-all, point-lines, point-off, lines_end}
use Rattle.reports.proofs.Putting.{coming-starts, coming-same, coming-on, coming-ends}
use Rattle.reports.proofs.text.put_marks.Goals.{then-m-ne0, else-m-ne0}
use Rattle.reports.proofs.text.put_marks.Goals as goal

pub loop-i-init : goal.loop-i-init
loop-i-init g c =
    let args = c.args in
    coming-starts (sym (ap v_lines (listed-all args.series args.first args.marks.now)))

pub loop-i-preserved : goal.loop-i-preserved
loop-i-preserved g c =
    let args = c.args in
    elim c.if-m-ne0.branch [
      | then-m-ne0 w ↦
          rw (w.to-is, w.out-is)
          (coming-on c.loop-i.invariant (point-lines args.series args.first args.marks.now c.loop-i.i c.loop-i-test.true) w.put_point-to.ensures)
      | else-m-ne0 w ↦
          rw (w.to-is, w.out-is)
          (coming-same c.loop-i.invariant (ap v_lines (point-off args.series args.first args.marks.now c.loop-i.i c.loop-i-test.true w.if-m-ne0.false)))
    ]

pub returns : goal.returns
returns g c =
    let args = c.args in
    coming-ends c.loop-i.invariant (lines_end args.series args.first args.marks.now c.loop-i.i c.loop-i-test.false)
