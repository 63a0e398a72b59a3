-- `histories::reading::pack` meets its contract: bit by bit. Assumes nothing.
use mathlib.Core.List.{[], ◌∷◌}
use native.Mathlib.Omega.{arith}
use Rattle.laws.proofs.Bits.{or-bits}
use Rattle.histories.proofs.reading.pack.Goals as goal

pub returns : goal.returns
returns c =
    let a = c.args in
    or-bits 16 a.beyond (a.nine ∷ a.trend ∷ a.turns ∷ a.two ∷ a.four ∷ a.fifteen ∷ a.outside ∷ a.eight ∷ []) (omega arith)
