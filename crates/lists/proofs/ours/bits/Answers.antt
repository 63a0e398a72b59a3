-- `lists::ours::bits` meets its contract. Assumes nothing.
use mathlib.Core.Path.{sym, ap}
use lib.Ieee.{Float, binary64, to_bits}
use Rattle.floats.proofs.Nan.{is-nan, no_nan}
use Rattle.lists.proofs.ours.bits.Goals as goal

pub returns-then-x : goal.returns-then-x
unfolding to_bits
returns-then-x c =
    sym (ap (λ (x : Float). to_bits binary64 x) (is-nan c.args.x c.if-x.true))

pub float_to_bits-result : goal.float_to_bits-result
float_to_bits-result c =
    no_nan c.args.x c.if-x.false
