-- `Right::df_of` meets its contract, by kind. Assumes nothing.
use lib.Ieee.{of_bits, round}
use Rattle.evaluating.specs.Sigma.{df_of}
use Rattle.evaluating.proofs.ByKind.{of_kind, size-of}
use Rattle.evaluating.proofs.right.Right.df_of.Goals as goal

pub of_size-requires : goal.of_size-requires
of_size-requires c =
    size-of c.args.self.chart c.args.self.own (λ e. cc) c.in-Ranges.ensures

pub of_size-requires-in-Deviations : goal.of_size-requires-in-Deviations
of_size-requires-in-Deviations c =
    size-of c.args.self.chart c.args.self.own (λ e. cc) c.in-Deviations.ensures

pub returns-in-Individuals : goal.returns-in-Individuals
unfolding df_of of_bits round
returns-in-Individuals c =
    rw (c.nearest_usize_to_f64-n.ensures, c.points_in.ensures) (of_kind c.args.self.chart.kind _ _ _ c.in-Individuals.ensures)
