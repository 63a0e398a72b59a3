-- `histories::reading::all` meets its contract: a mask that is full. Assumes nothing.
use Rattle.histories.proofs.Bits.{all-judged}
use Rattle.histories.proofs.reading.all.Goals as goal

pub returns : goal.returns
returns c =
    let a = c.args in rw c.newest-mask.ensures (all-judged a.up a.down a.n c.requires)
