-- `Chart::record_wrong` meets its contract: the product is taken only where it is small. Assumes nothing.
use native.Mathlib.Omega.{arith}
use Rattle.laws.proofs.Bools.{told}
use Rattle.charts.proofs.Held.{own}
use Rattle.charts.proofs.Chart.record_wrong.Goals as goal

pub overflow_mul-result : goal.overflow_mul-result
overflow_mul-result c =
    omega (arith, own c.args.self (told c.own_wrong.ensures c.if-own_wrong.false))
