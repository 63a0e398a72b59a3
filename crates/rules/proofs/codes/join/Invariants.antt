-- `rules::codes::join` meets its contract: one code after the other. Assumes nothing.
use lib.ListN.{get_or}
use Rattle.rules.proofs.Making.{Adding}
use Rattle.rules.proofs.codes.join.Given as goal

abbrev pub invariant-loop-j : goal.invariant-loop-j
invariant-loop-j l =
    Adding (λ i. get_or l.k i 0) 16 l.initial.c l.c l.j
