-- `text::put_point` meets its contract: the lines of the tests from t on are to come. Assumes nothing.
use mathlib.Core.Path.{refl, sym, ◌∙◌}
use Rattle.reports.proofs.Marks.{lines-on, lines-off, lines-done}
use Rattle.reports.proofs.Putting.{coming-starts, coming-same, coming-on, coming-ends}
use Rattle.reports.proofs.text.put_point.Goals.{then-has_bit, else-has_bit}
use Rattle.reports.proofs.text.put_point.Goals as goal

pub loop-t-init : goal.loop-t-init
loop-t-init g c =
    coming-starts refl

pub loop-t-preserved : goal.loop-t-preserved
loop-t-preserved g c =
    let args = c.args in
    elim c.if-has_bit.branch [
      | then-has_bit w ↦
          rw (w.to-is, w.out-is)
          (coming-on c.loop-t.invariant (lines-on args.series args.index args.m c.loop-t.t c.loop-t-test.true (sym c.has_bit.ensures ∙ w.if-has_bit.true)) w.put_line-to.ensures)
      | else-has_bit w ↦
          rw (w.to-is, w.out-is)
          (coming-same c.loop-t.invariant (lines-off args.series args.index args.m c.loop-t.t c.loop-t-test.true (sym c.has_bit.ensures ∙ w.if-has_bit.false)))
    ]

pub returns : goal.returns
returns g c =
    let args = c.args in
    coming-ends c.loop-t.invariant (lines-done args.series args.index args.m c.loop-t.t c.loop-t-test.false)
