-- `stops::nearer` meets its contract. Assumes nothing.
use mathlib.Core.Path.{sym, ap}
use mathlib.Core.Bool.{Bool, cond}
use Rattle.stops.specs.Cuts.{nearer}
use Rattle.stops.proofs.nearer.Goals as goal

pub returns-then-q-at : goal.returns-then-q-at
unfolding nearer
returns-then-q-at c =
    let a = c.args in
    ap (λ (b : Bool). cond b a.q a.first) (sym c.if-q-at.true)

pub returns : goal.returns
unfolding nearer
returns c =
    let a = c.args in
    ap (λ (b : Bool). cond b a.q a.first) (sym c.if-q-at.false)
