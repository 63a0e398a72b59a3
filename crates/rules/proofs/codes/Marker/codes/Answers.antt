-- `rules::codes::Marker::codes` meets its contract: the codes of few values are those of the values padded. Assumes nothing.
use native.Mathlib.Omega.{arith}
use Rattle.rules.proofs.Making.{codes-padded}
use Rattle.rules.proofs.codes.Marker.codes.Goals as goal

pub returns-then-values-lt16 : goal.returns-then-values-lt16
returns-then-values-lt16 c =
    let s = c.args in
    codes-padded s.self.set s.self.lines s.values.now _ _ _ (omega arith) c.pad.ensures.sixteen c.pad.ensures.values c.families.ensures
