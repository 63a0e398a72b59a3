-- `Held::dispersion_point` meets its contract, by kind. Assumes nothing.
use Rattle.std.proofs.Common.{◌+◌, ◌<◌, length, arith}
use Rattle.evaluating.proofs.ByKind.{number-1}
use Rattle.evaluating.proofs.SeriesPoints.{points-most, moving-reach}
use Rattle.evaluating.proofs.right.Held.dispersion_point.Goals.{In-Individuals}
use Rattle.evaluating.proofs.right.Held.dispersion_point.Goals as goal

-- the values hold the observation and the next
both : (c : In-Individuals) → c.args.i + 1 < length c.args.self.values.now
both c =
    moving-reach c.args.self.chart (length c.args.self.values.now) c.args.i c.args.self.held c.requires (number-1 c.args.self.chart.kind c.in-Individuals.ensures)

pub offset_bounds-self-i : goal.offset_bounds-self-i
offset_bounds-self-i c =
    omega (arith, both (goal.at.offset_bounds-self-i c).In-Individuals)

pub bounds-self-i : goal.bounds-self-i
bounds-self-i c =
    omega (arith, both (goal.at.bounds-self-i c).In-Individuals)

pub overflow_add-i : goal.overflow_add-i
overflow_add-i c =
    omega (arith, both (goal.at.overflow_add-i c).In-Individuals)

pub offset_bounds-self-i-in-Individuals : goal.offset_bounds-self-i-in-Individuals
offset_bounds-self-i-in-Individuals c =
    omega (arith, both (goal.at.offset_bounds-self-i-in-Individuals c).In-Individuals)

pub bounds-self-i-in-Individuals : goal.bounds-self-i-in-Individuals
bounds-self-i-in-Individuals c =
    both (goal.at.bounds-self-i-in-Individuals c).In-Individuals

pub sample_at-requires : goal.sample_at-requires
sample_at-requires c =
    omega (arith, points-most c.args.self.chart 1, c.requires)

pub sample_at-requires-in-Deviations : goal.sample_at-requires-in-Deviations
sample_at-requires-in-Deviations c =
    omega (arith, points-most c.args.self.chart 1, c.requires)
