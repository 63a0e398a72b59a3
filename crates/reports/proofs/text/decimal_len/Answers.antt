-- `text::decimal_len` meets its contract: a number from a power of ten on and below the next has one digit more than the power.
-- Assumes nothing.
use native.Mathlib.Omega.{arith}
use native.Mathlib.Nat.{pow-suc}
use Rattle.reports.proofs.Digits.{length-one, below_power, above_power}
use Rattle.reports.proofs.text.decimal_len.Goals as goal

pub returns-then-x-eq0 : goal.returns-then-x-eq0
returns-then-x-eq0 c =
    omega (arith, length-one c.args.x (omega arith))

pub returns : goal.returns
returns c =
    let k = c.ilog10.result in
    omega (arith, above_power k c.args.x c.ilog10.ensures.power_le, below_power k c.args.x (omega (arith, pow-suc 10 k, c.ilog10.ensures.next_power_gt)))
