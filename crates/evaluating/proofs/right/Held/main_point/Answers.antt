-- `Held::main_point` meets its contract, by kind. Assumes nothing.
use Rattle.std.proofs.Common.{length, arith}
use Rattle.evaluating.proofs.SeriesPoints.{points-main, main-reach}
use Rattle.evaluating.proofs.right.Held.main_point.Goals as goal

pub offset_bounds-self-i : goal.offset_bounds-self-i
offset_bounds-self-i c =
    omega (arith, main-reach c.args.self.chart (length c.args.self.values.now) c.args.i c.args.self.held c.requires)

pub bounds-self-i : goal.bounds-self-i
bounds-self-i c =
    main-reach c.args.self.chart (length c.args.self.values.now) c.args.i c.args.self.held c.requires

pub sample_at-requires : goal.sample_at-requires
sample_at-requires c =
    omega (arith, points-main c.args.self.chart, c.requires)
