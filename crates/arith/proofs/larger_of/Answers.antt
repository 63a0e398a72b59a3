-- `arith::larger_of` meets its contract, by its test. Assumes nothing.
use Rattle.std.proofs.Common.{Bool, cond, sym, ap}
use Rattle.arith.proofs.larger_of.Goals as goal

pub returns-then-t-v : goal.returns-then-t-v
returns-then-t-v c =
    sym (ap (λ (b : Bool). cond b c.args.v c.args.t) c.if-t-v.true)

pub returns-else-t-v : goal.returns-else-t-v
returns-else-t-v c =
    sym (ap (λ (b : Bool). cond b c.args.v c.args.t) c.if-t-v.false)
