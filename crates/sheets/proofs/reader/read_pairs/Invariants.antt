-- `sheets::reader::read_pairs` meets its contract, which is also the invariant of its loop. Assumes nothing.
use Rattle.sheets.specs.Steps.{Onward}
use Rattle.sheets.proofs.reader.read_pairs.Given as goal

abbrev pub invariant-loop-r : goal.invariant-loop-r
invariant-loop-r l =
    Onward l.s l.set l.initial.stated l.fn.from l.stated l.r

abbrev pub decreases-loop-r : goal.decreases-loop-r
decreases-loop-r l =
    l.r.left
