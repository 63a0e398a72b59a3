-- `groups::size` meets its contract: one is counted for the groups that are left. Assumes nothing.
use Prim.Native.Nat.{◌+◌}
use mathlib.Core.Path.{◌≡◌}
use lib.ListN.{length}
use Rattle.groups.specs.Groups.{groups}
use Rattle.groups.proofs.size.Given as goal

abbrev pub invariant-loop-left : goal.invariant-loop-left
invariant-loop-left l =
    l.n + length (groups l.left) ≡ length (groups l.x) + 1

abbrev pub decreases-loop-left : goal.decreases-loop-left
decreases-loop-left l =
    l.left
