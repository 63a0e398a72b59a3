-- `sheets::writer::measure` meets its contract. `Measures` of proofs/Writing.antt is the invariant of its loop. Assumes nothing.
use Rattle.sheets.proofs.Writing.{measures-skip, measures-put, measures-end}
use Rattle.sheets.proofs.writer.measure.Goals.{then-m-eq0, else-m-eq0}
use Rattle.sheets.proofs.writer.measure.Goals as goal

pub loop-m-preserved : goal.loop-m-preserved
loop-m-preserved c =
    let l = c.loop-m in
    let turn = measures-skip c.args.marks.now l.m-index l.skip l.marked l.len l.invariant c.loop-m-test.true in
    let put = measures-put c.args.marks.now l.m-index l.skip l.marked l.len l.invariant c.loop-m-test.true in
    elim c.if-m-eq0.branch [
      | then-m-eq0 w ↦ rw (w.skip-is, w.marked-is, w.len-is) (turn w.if-m-eq0.true)
      | else-m-eq0 w ↦
          rw (w.skip-is, w.marked-is, w.len-is)
          (put w.if-m-eq0.false w.size.result w.size-else-m-eq0.result w.size.ensures w.size-else-m-eq0.ensures)
    ]

pub returns : goal.returns
returns c =
    let l = c.loop-m in
    measures-end c.args.marks.now l.m-index l.skip l.marked l.len l.invariant c.loop-m-test.false
