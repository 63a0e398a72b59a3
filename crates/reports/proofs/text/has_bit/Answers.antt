-- `text::has_bit` meets its contract. Assumes nothing.
use Prim.Native.Nat.{ℕ, ◌/◌, ◌^◌}
use mathlib.Core.Path.{ap}
use lib.Bits.{and_mask}
use lib.Dec.{eqb}
use Rattle.laws.specs.Bits.{has_bit}
use Rattle.reports.proofs.text.has_bit.Goals as goal

pub returns : goal.returns
unfolding has_bit
returns c =
    ap (λ (x : ℕ). eqb x 1) (and_mask (c.args.m / 2 ^ c.args.k) 1)
