-- `sheets::writer::write_entries` meets its contract. `Writes` of proofs/Writing.antt is the invariant of its loop. Assumes nothing.
use Rattle.sheets.proofs.Writing.{Writes}
use Rattle.sheets.proofs.writer.write_entries.Given as goal

abbrev pub invariant-loop-m : goal.invariant-loop-m
invariant-loop-m l =
    Writes l.marks l.initial.out l.out l.m-index l.skip l.at
