-- `rules::cuts::cut_before` meets its contract: nothing is behind the cut, or the first marks there are fitted. Assumes nothing.
use native.Mathlib.Omega.{arith}
use Rattle.rules.proofs.Stopped.{cut-past, cut-lent}
use Rattle.rules.proofs.cuts.cut_before.Goals as goal

pub returns-then-n-q : goal.returns-then-n-q
returns-then-n-q c =
    cut-past _ _ c.if-n-q.true

pub returns : goal.returns
returns c =
    cut-lent c.args.q _ c.args.marks.now _ (omega (arith, c.if-n-q.false)) (omega arith) (omega arith) (λ i p q. omega arith) c.fit.ensures
