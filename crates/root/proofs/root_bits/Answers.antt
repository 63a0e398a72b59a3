-- `root::root_bits` meets its contract, by what `place` and `digits` ensure and `Steps.antt` makes of it. Assumes nothing.
use Rattle.root.proofs.Steps.{finished}
use Rattle.root.proofs.root_bits.Goals as goal

pub returns : goal.returns
returns c =
    let at = c.place-s in
    finished c.args.b at.result.s at.result.p c.digits.result at.ensures c.digits.ensures
