-- `sheets::reader::read_entries` meets its contract: `Onward` from the start is the invariant of its loop. Assumes nothing.
use Rattle.sheets.specs.Steps.{Onward}
use Rattle.sheets.proofs.Entries.{reach}
use Rattle.sheets.proofs.reader.read_entries.Given as goal

abbrev pub invariant-loop-r : goal.invariant-loop-r
invariant-loop-r l =
    Onward l.s l.fn.head.set l.initial.stated (reach 0 l.fn.head.next l.fn.head.marked) l.stated l.r

abbrev pub decreases-loop-r : goal.decreases-loop-r
decreases-loop-r l =
    l.r.left
