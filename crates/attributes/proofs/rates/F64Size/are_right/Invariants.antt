-- `Size::are_right` of units meets its contract: what was seen and the rest together say what the whole says. Assumes nothing.
use Rattle.std.proofs.Common.{get_or}
use lib.Ieee.{nan}
use Rattle.laws.proofs.Judged.{Judged}
use Rattle.attributes.specs.Kinds.{sample_u}
use Rattle.attributes.specs.Evaluating.{right}
use Rattle.attributes.proofs.rates.F64Size.are_right.Given as goal

abbrev pub invariant-loop-i : goal.invariant-loop-i
invariant-loop-i l =
    Judged (λ k. right (sample_u (get_or l.counts k 0) (get_or l.sizes k nan))) l.count l.i l.all
