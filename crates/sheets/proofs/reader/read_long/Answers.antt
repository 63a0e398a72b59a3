-- `sheets::reader::read_long` meets its contract, which is also the invariant of its loop. Assumes nothing.
use Prim.Native.Nat.{◌+◌, ◌<◌}
use native.Mathlib.Omega.{arith}
use mathlib.Core.Path.{◌∙◌}
use lib.ListN.{length}
use borrow.Author.Rules.{rules}
use Rattle.sheets.proofs.Entries.{onward-start, has_room, onward-long}
use Rattle.sheets.proofs.reader.read_long.Goals.{Else-stated-first, Then-r-near_end}
use Rattle.sheets.proofs.reader.read_long.Goals as goal

-- three bytes more follow
near : (c : Then-r-near_end) → c.loop-r.r.at + 3 < length c.args.s.now
near c =
    omega (arith, c.if-r-near_end.true, c.saturating_sub-near_end.ensures)

-- the point is one of those left
room : (c : Else-stated-first) → c.loop-r.r.point + c.from.result < length c.loop-r.stated
room c =
    has_room _ _ _ _ c.if-stated-first.false

pub loop-r-init : goal.loop-r-init
loop-r-init c =
    onward-start c.args.s.now c.args.set c.args.stated.now c.args.from c.requires

pub bounds-stated-first : goal.bounds-stated-first
bounds-stated-first c =
    room (goal.at.bounds-stated-first c).Else-stated-first

pub loop-r-preserved : goal.loop-r-preserved
loop-r-preserved c =
    let args = c.args in
    onward-long args.s.now args.set args.stated.now args.from c.loop-r.stated c.loop-r.r.point c.loop-r.r.at c.loop-r.r.left c.loop-r.invariant
    c.from.result c.from-low.result c.from-high.result c.joined-marks.result (omega (arith, near (goal.at.loop-r-preserved c).Then-r-near_end)) c.loop-r-test.true
    (c.from.ensures ∙ c.from-skip.ensures) c.from-low.ensures c.from-high.ensures (search rules) c.joined-marks.ensures c.if-stated-first.false (rw (← c.from.ensures) at c.if-marks-set.false)
