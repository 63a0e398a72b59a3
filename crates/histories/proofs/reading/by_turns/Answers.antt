-- `histories::reading::by_turns` meets its contract: two masks, woven, that are full. Assumes nothing.
use Rattle.histories.proofs.Bits.{turns-judged}
use Rattle.histories.proofs.reading.by_turns.Goals as goal

pub returns : goal.returns
returns c =
    turns-judged c.args.up c.args.down
