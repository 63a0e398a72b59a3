-- `arith::mean_of` meets its contract. Assumes nothing.
use Rattle.std.proofs.Common.{ap₂}
use lib.Ieee.{binary64, div}
use Rattle.arith.specs.Arith.{mean_of}
use Rattle.arith.proofs.mean_of.Goals as goal

pub returns : goal.returns
unfolding mean_of
returns c =
    ap₂ (div binary64) c.sum_of.ensures c.nearest_usize_to_f64.ensures
