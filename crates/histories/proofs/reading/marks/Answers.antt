-- `histories::reading::marks` meets its contract: the tests that stand, of the set, whose window fits. Assumes nothing.
use Rattle.histories.proofs.Marks.{marks-read}
use Rattle.histories.proofs.reading.marks.Goals as goal

pub returns : goal.returns
returns c =
    let a = c.args in rw c.standing.ensures (rw c.from.ensures (marks-read a.set a.lane c.requires))
