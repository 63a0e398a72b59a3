-- `Right::factor_for` meets its contract, by kind. Assumes nothing.
use Rattle.evaluating.proofs.ByKind.{size-of}
use Rattle.evaluating.proofs.right.Right.factor_for.Goals as goal

pub of_size-requires : goal.of_size-requires
of_size-requires c =
    size-of c.args.self.chart c.args.self.own (λ e. cc) c.in-Ranges.ensures

pub of_size-requires-in-Deviations : goal.of_size-requires-in-Deviations
of_size-requires-in-Deviations c =
    size-of c.args.self.chart c.args.self.own (λ e. cc) c.in-Deviations.ensures
