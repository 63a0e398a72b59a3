-- `lists::run::go` counts no more cases that differ than it has gone through. Assumes nothing.
use Prim.Native.Nat.{◌≤◌}
use Rattle.lists.proofs.run.go.Given as goal

abbrev pub invariant-loop-k : goal.invariant-loop-k
invariant-loop-k g l =
    goal.F-IsAlwaysCallable g l.replay_case × (l.run.differ ≤ l.k)
