-- `histories::reading::newest` meets its contract: no bit is shifted out. Assumes nothing.
use mathlib.Core.Path.{ap}
use Prim.Native.Nat.{ℕ, ◌-◌}
use native.Mathlib.Omega.{arith}
use lib.Pow.{pow_pos}
use Rattle.laws.proofs.OneBit.{one_shl}
use Rattle.histories.proofs.reading.newest.Goals as goal

pub overflow_sub-result : goal.overflow_sub-result
overflow_sub-result c =
    rw (one_shl c.args.n 16 (omega (arith, c.requires))) (pow_pos c.args.n)

pub returns : goal.returns
returns c =
    ap (λ (m : ℕ). m - 1) (one_shl c.args.n 16 (omega (arith, c.requires)))
