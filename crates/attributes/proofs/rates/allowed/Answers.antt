-- `rates::allowed` meets its contract: a positive unit is finite exactly if it is at most the largest f64. Assumes nothing.
use Rattle.floats.proofs.Largest.{at-most-largest}
use Rattle.std.proofs.Common.{rules}
use Rattle.attributes.proofs.rates.allowed.Goals as goal

pub returns : goal.returns
returns c =
    at-most-largest c.args.u (search rules)
