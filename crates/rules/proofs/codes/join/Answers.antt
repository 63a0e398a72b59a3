-- `rules::codes::join` meets its contract: one code after the other. Assumes nothing.
use mathlib.Core.Path.{refl}
use native.Mathlib.Omega.{arith}
use Rattle.rules.proofs.Making.{adding-starts, adding-one, adding-ends}
use Rattle.rules.proofs.codes.join.Goals as goal

pub loop-j-init : goal.loop-j-init
loop-j-init c =
    adding-starts _ _ _

pub loop-j-preserved : goal.loop-j-preserved
loop-j-preserved c =
    adding-one _ _ _ _ _ c.loop-j.invariant _ refl (omega arith) (omega arith)

pub returns : goal.returns
returns c =
    adding-ends _ _ _ _ _ c.loop-j.invariant (omega arith)
