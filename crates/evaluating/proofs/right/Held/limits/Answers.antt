-- `Held::limits` meets its contract: no chart has more points than the larger rooms. Assumes nothing.
use Rattle.std.proofs.Common.{length, arith}
use Rattle.charts.proofs.Held.{held}
use Rattle.evaluating.proofs.right.Held.limits.Goals as goal

pub measure_in-requires-2 : goal.measure_in-requires-2
measure_in-requires-2 c =
    (omega (arith, (held c.args.self.chart (length c.args.self.values.now) c.args.self.held).figures.few), omega arith)
