-- `sheets::reader::read_pairs` meets its contract, which is also the invariant of its loop. Assumes nothing.
use Prim.Native.Nat.{◌+◌, ◌<◌}
use native.Mathlib.Omega.{arith}
use mathlib.Core.Path.{◌∙◌}
use lib.ListN.{length, length-set}
use Rattle.sheets.proofs.Entries.{onward-start, has_room, onward-pair}
use Rattle.sheets.proofs.reader.read_pairs.Goals.{Else-stated-second, Then-r-near_end}
use Rattle.sheets.proofs.reader.read_pairs.Goals as goal

-- three bytes more follow
near : (c : Then-r-near_end) → c.loop-r.r.at + 3 < length c.args.s.now
near c =
    omega (arith, c.if-r-near_end.true, c.saturating_sub-near_end.ensures)

-- the later of the two points is one of those left
room : (c : Else-stated-second) → c.loop-r.r.point + c.from.result + 1 + c.from-in-loop-r.result < length c.loop-r.stated
room c =
    has_room _ _ _ _ c.if-stated-second.false

pub loop-r-init : goal.loop-r-init
loop-r-init c =
    onward-start c.args.s.now c.args.set c.args.stated.now c.args.from c.requires

pub bounds-stated-first : goal.bounds-stated-first
bounds-stated-first c =
    omega (arith, room (goal.at.bounds-stated-first c).Else-stated-second)

pub bounds-stated-second : goal.bounds-stated-second
bounds-stated-second c =
    simp length-set (room (goal.at.bounds-stated-second c).Else-stated-second)

pub loop-r-preserved : goal.loop-r-preserved
loop-r-preserved c =
    let args = c.args in
    onward-pair args.s.now args.set args.stated.now args.from c.loop-r.stated c.loop-r.r.point c.loop-r.r.at c.loop-r.r.left c.loop-r.invariant
    c.from.result c.from-b.result c.from-in-loop-r.result c.from-d.result (near (goal.at.loop-r-preserved c).Then-r-near_end) c.loop-r-test.true
    (c.from.ensures ∙ c.from-a.ensures) c.from-b.ensures (c.from-in-loop-r.ensures ∙ c.from-c.ensures) c.from-d.ensures c.if-stated-second.false
    (rw (← c.from.ensures, ← c.from-in-loop-r.ensures) at c.if-b-set.false)
