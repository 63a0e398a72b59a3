-- `arith::deviation_of` meets its contract, by what each step says. Assumes nothing.
use Rattle.arith.specs.Arith.{deviation_of}
use Rattle.arith.proofs.deviation_of.Goals as goal

pub returns : goal.returns
unfolding deviation_of
returns c =
    rw (c.or_nan.ensures, c.root.ensures.is, c.squares.ensures, c.mean_of.ensures, c.nearest_usize_to_f64.ensures, c.saturating_sub-n.ensures)
