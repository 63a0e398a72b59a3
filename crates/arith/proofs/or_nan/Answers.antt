-- `arith::or_nan` meets its contract: each answer of the root in its turn. Assumes nothing.
use Rattle.std.proofs.Common.{◌≡◌, refl, ◌∙◌}
use Rattle.std.specs.Prelude.{Result, Ok, Err}
use Rattle.std.specs.Result.{result_unwrap_or}
use lib.Ieee.{Float, nan, of_bits}
use Rattle.root.specs.declared.NoRoot.{NoRoot}
use Rattle.arith.specs.Arith.{or_nan}
use Rattle.arith.proofs.or_nan.Goals as goal

unwrapped : (r : Result Float NoRoot) → result_unwrap_or r nan ≡ or_nan r
unfolding or_nan
unwrapped (Ok x) = refl
unwrapped (Err why) = refl

pub returns : goal.returns
unfolding of_bits
returns c =
    c.unwrap_or.ensures ∙ unwrapped c.args.r
