-- `Factor::of_size` meets its contract: the table is the definition's, entry by entry. Assumes nothing.
use Rattle.std.proofs.Common.{refl, le-ltb}
use lib.Ieee.{of_bits, round}
use Rattle.evaluating.specs.Factors.{factor_of}
use Rattle.evaluating.proofs.factors.Factor.of_size.Goals as goal

pub returns : goal.returns
unfolding factor_of of_bits round
returns c =
    let args = c.args in rw (c.row.ensures, le-ltb args.size 2 c.requires.0) refl
