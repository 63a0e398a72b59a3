-- `arith::smaller_of` meets its contract, by its test. Assumes nothing.
use Rattle.std.proofs.Common.{Bool, cond, sym, ap}
use Rattle.arith.proofs.smaller_of.Goals as goal

pub returns-then-v-t : goal.returns-then-v-t
returns-then-v-t c =
    sym (ap (λ (b : Bool). cond b c.args.v c.args.t) c.if-v-t.true)

pub returns-else-v-t : goal.returns-else-v-t
returns-else-v-t c =
    sym (ap (λ (b : Bool). cond b c.args.v c.args.t) c.if-v-t.false)
