-- `histories::push` meets its contract: a shift and an or. Assumes nothing.
use Rattle.histories.proofs.Bits.{push-is}
use Rattle.histories.proofs.push.Goals as goal

pub returns : goal.returns
returns c =
    push-is c.args.b c.args.h
