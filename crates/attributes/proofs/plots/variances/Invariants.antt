-- `plots::variances` meets its contract: the entries are changed one after the other. Assumes nothing.
use Rattle.std.proofs.Common.{get_or, length}
use lib.Ieee.{nan, binary64, div}
use Rattle.laws.proofs.Filling.{Tabling}
use Rattle.attributes.proofs.plots.variances.Given as goal

abbrev pub invariant-loop-size : goal.invariant-loop-size
invariant-loop-size l =
    Tabling (λ k. div binary64 l.variance (get_or l.initial.sizes k nan)) (length l.initial.sizes) l.initial.sizes l.sizes l.size-index
