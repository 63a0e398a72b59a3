-- `histories::reading::some` meets its contract: a count of ones. Assumes nothing.
use Rattle.histories.proofs.Bits.{some-judged}
use Rattle.histories.proofs.reading.some.Goals as goal

pub returns : goal.returns
returns c =
    let a = c.args in rw c.newest-mask.ensures (some-judged a.up a.down a.n c.requires a.k)
