-- `rules::window` meets its contract: the table is the third column of 01's, in the order of the bits. Assumes nothing.
use mathlib.Core.Path.{ap, ◌∙◌}
use mathlib.Core.List.{map}
use Prim.Native.Nat.{ℕ}
use native.Mathlib.Omega.{arith}
use lib.ListN.{get_or}
use Rattle.sets.specs.Sets.{tests}
use Rattle.sets.proofs.Sets.{at-bit, bit_of-lt}
use Rattle.rules.specs.Tests.{window}
use Rattle.rules.proofs.window.Goals as goal

pub offset_bounds-bit : goal.offset_bounds-bit
offset_bounds-bit c =
    omega (arith, bit_of-lt c.args.t)

pub bounds-bit : goal.bounds-bit
bounds-bit c =
    omega (arith, bit_of-lt c.args.t)

pub returns : goal.returns
unfolding tests window
returns c =
    ap (λ (k : ℕ). get_or (map window tests) k 0) c.bit.ensures ∙ at-bit window 0 c.args.t
