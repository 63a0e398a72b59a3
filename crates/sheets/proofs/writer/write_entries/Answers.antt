-- `sheets::writer::write_entries` meets its contract. `Writes` of proofs/Writing.antt is the invariant of its loop. Assumes nothing.
use Rattle.sheets.proofs.Writing.{writes-skip, writes-room, writes-on, writes-count, writes_end}
use Rattle.sheets.proofs.writer.write_entries.Goals.{then-m-eq0, else-m-eq0}
use Rattle.sheets.proofs.writer.write_entries.Goals as goal

pub write_entry-at-requires : goal.write_entry-at-requires
write_entry-at-requires c =
    let l = c.loop-m in
    writes-room c.args.marks.now c.args.out.now l.out l.m-index l.skip l.at l.invariant c.loop-m-test.true c.if-m-eq0.false

pub loop-m-preserved : goal.loop-m-preserved
loop-m-preserved c =
    let l = c.loop-m in
    let turn = writes-skip c.args.marks.now c.args.out.now l.out l.m-index l.skip l.at l.invariant c.loop-m-test.true in
    let put = writes-on c.args.marks.now c.args.out.now l.out l.m-index l.skip l.at l.invariant c.loop-m-test.true in
    elim c.if-m-eq0.branch [
      | then-m-eq0 w ↦ rw (w.out-is, w.skip-is, w.at-is) (turn w.if-m-eq0.true)
      | else-m-eq0 w ↦
          rw (w.out-is, w.skip-is, w.at-is)
          (put w.if-m-eq0.false w.write_entry-at.new.out w.write_entry-at.result w.write_entry-at.ensures.room w.write_entry-at.ensures.count)
    ]

pub returns : goal.returns
returns c =
    let l = c.loop-m in record {
      count = writes-count c.args.marks.now c.args.out.now l.out l.m-index l.skip l.at l.invariant c.loop-m-test.false;
      room = writes_end c.args.marks.now c.args.out.now l.out l.m-index l.skip l.at l.invariant c.loop-m-test.false;
    }
