-- `Held::sample_at` meets its contract: the values hold the sample. Assumes nothing.
use Rattle.std.proofs.Common.{length, arith}
use Rattle.evaluating.proofs.SeriesPoints.{points-main, Reach, reach}
use Rattle.evaluating.proofs.right.Held.sample_at.Goals.{Start}
use Rattle.evaluating.proofs.right.Held.sample_at.Goals as goal

sample : (c : Start) → Reach c.args.self.chart (length c.args.self.values.now) c.args.i
sample c =
    reach c.args.self.chart 0 (length c.args.self.values.now) c.args.i c.args.self.held (omega (arith, points-main c.args.self.chart))

pub overflow_mul-at : goal.overflow_mul-at
overflow_mul-at c =
    omega (arith, sample (goal.at.overflow_mul-at c).Start)

pub overflow_add-result : goal.overflow_add-result
overflow_add-result c =
    omega (arith, sample (goal.at.overflow_add-result c).Start)

pub offset_bounds-self-at : goal.offset_bounds-self-at
offset_bounds-self-at c =
    omega (arith, sample (goal.at.offset_bounds-self-at c).Start)

pub slice_bounds-result-end : goal.slice_bounds-result-end
slice_bounds-result-end c =
    omega (arith, sample (goal.at.slice_bounds-result-end c).Start)
