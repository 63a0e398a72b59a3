-- `rules::codes::put` meets its contract: sixteen codes at a time. Assumes nothing.
use mathlib.Core.Bool.{true}
use Prim.Native.Nat.{◌-◌}
use lib.Ieee.{nan}
use lib.ListN.{length, get_or}
use Rattle.rules.specs.Codes.{family_at}
use Rattle.rules.proofs.Making.{Adding}
use Rattle.rules.proofs.codes.put.Given as goal

abbrev pub invariant-loop-i : goal.invariant-loop-i
invariant-loop-i g l =
    Adding (family_at (g.F.Family.code l.family) true (get_or l.values 0 nan) l.values) (length l.values) l.initial.c l.c l.i

abbrev pub decreases-loop-i : goal.decreases-loop-i
decreases-loop-i g l =
    length l.values - l.i
