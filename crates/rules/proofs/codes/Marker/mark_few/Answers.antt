-- `rules::codes::Marker::mark_few` meets its contract: one block has all marks. Assumes nothing.
use native.Mathlib.Omega.{arith}
use borrow.Author.Rules.{rules}
use Rattle.stops.specs.Cuts.{unbroken}
use Rattle.rules.specs.Marking.{marks_at}
use Rattle.rules.proofs.Making.{clear-zeros}
use Rattle.rules.proofs.Marks.{one_block}
use Rattle.rules.proofs.codes.Marker.mark_few.Goals as goal

pub returns : goal.returns
returns c =
    let s = c.args in
    one_block (marks_at unbroken s.self.lines s.self.set s.values.now) _ _ _ c.block.ensures

pub block-requires : goal.block-requires
block-requires c =
    (omega arith, omega arith, omega arith, search rules, omega arith, clear-zeros 64)
