-- `rules::codes::read` meets its contract: the marks are written one after the other. Assumes nothing.
use lib.Bits.{bit_and}
use Rattle.laws.proofs.Filling.{Tabling}
use Rattle.rules.specs.Codes.{marks_read}
use Rattle.rules.proofs.codes.read.Given as goal

abbrev pub invariant-loop-i : goal.invariant-loop-i
invariant-loop-i g l =
    Tabling (marks_read (bit_and l.set g.row.KEPT) l.c) l.m l.initial.out l.out l.i
