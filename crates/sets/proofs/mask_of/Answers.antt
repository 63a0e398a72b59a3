-- `sets::mask_of` meets its contract: one, shifted up to the test's bit. Assumes nothing.
use Prim.Native.Nat.{ℕ, ◌^◌}
use native.Mathlib.Omega.{arith}
use mathlib.Core.Path.{ap, ◌∙◌}
use Rattle.laws.proofs.OneBit.{one_shl}
use Rattle.sets.proofs.Sets.{bit_of-lt}
use Rattle.sets.proofs.mask_of.Goals as goal

pub overflow_cast-result : goal.overflow_cast-result
overflow_cast-result c =
    omega (arith, bit_of-lt c.args.t)

pub overflow_shl-result : goal.overflow_shl-result
overflow_shl-result c =
    omega (arith, bit_of-lt c.args.t)

pub returns : goal.returns
returns c =
    one_shl c.bit.result 16 (omega (arith, bit_of-lt c.args.t)) ∙ ap (λ (k : ℕ). 2 ^ k) c.bit.ensures
