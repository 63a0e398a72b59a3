-- `rules::codes::Marker::block` meets its contract: the codes are made, the marks read off them, and those that do not fit taken away. Assumes
-- nothing.
use mathlib.Core.Path.{refl}
use Prim.Native.Nat.{◌-◌}
use native.Mathlib.Omega.{arith}
use borrow.Author.Rules.{rules}
use Rattle.rules.proofs.Making.{lent-clear}
use Rattle.rules.proofs.Marks.{codes-there, block-marks}
use Rattle.rules.proofs.codes.Marker.block.Goals as goal

pub codes-requires : goal.codes-requires
codes-requires c =
    (search rules, search rules, lent-clear _ _ c.requires.5)

pub returns : goal.returns
returns c =
    let vs = c.args.values.now in
    let there = codes-there c.args.self.set c.args.self.lines vs c.args.c.now _ (14 - c.args.p) (omega arith) c.codes.ensures in
    block-marks c.args.self.set c.args.self.lines vs c.args.p _ c.requires.0 there _ _ _ _ _ refl (omega arith) (omega arith) (λ i h q. omega arith)
    c.read_marks.ensures c.fit.ensures
