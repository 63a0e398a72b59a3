-- `plots::sigmas` meets its contract: the entries are changed one after the other. Assumes nothing.
use Rattle.std.proofs.Common.{get_or, length}
use lib.Ieee.{nan}
use Rattle.laws.proofs.Filling.{Tabling}
use Rattle.attributes.specs.Evaluating.{sigma_of}
use Rattle.attributes.proofs.plots.sigmas.Given as goal

abbrev pub invariant-loop-variance : goal.invariant-loop-variance
invariant-loop-variance l =
    Tabling (λ k. sigma_of (get_or l.initial.variances k nan)) (length l.initial.variances) l.initial.variances l.variances l.variance-index
