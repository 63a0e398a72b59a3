-- `Held::measure_in` meets its contract: its rooms are long enough for the chart. Assumes nothing.
use Rattle.std.proofs.Common.{arith}
use lib.ListN.{length-replicate}
use Rattle.evaluating.proofs.SeriesPoints.{points-most}
use Rattle.evaluating.proofs.right.Held.measure_in.Goals as goal

pub measure-requires : goal.measure-requires
measure-requires g c = (
  simp length-replicate (omega (arith, c.requires.0, points-most c.args.self.chart 0)),
  simp length-replicate (omega (arith, c.requires.0, points-most c.args.self.chart 1)),
)
