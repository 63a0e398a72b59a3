-- `floats::is_finite` meets its contract: finite is what lies between the largest f64 and its negative. Assumes nothing.
use borrow.Author.Rules.{rules}
use Rattle.floats.proofs.Largest.{between-largest}
use Rattle.floats.proofs.is_finite.Goals as goal

pub returns : goal.returns
returns c =
    between-largest c.args.v (search rules)
