-- `sheets::writer::measure` meets its contract. `Measures` of proofs/Writing.antt is the invariant of its loop. Assumes nothing.
use Rattle.sheets.proofs.Writing.{Measures}
use Rattle.sheets.proofs.writer.measure.Given as goal

abbrev pub invariant-loop-m : goal.invariant-loop-m
invariant-loop-m l =
    Measures l.marks l.m-index l.skip l.marked l.len
