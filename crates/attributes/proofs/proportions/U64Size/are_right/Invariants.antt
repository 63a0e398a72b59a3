-- `Size::are_right` of parcels meets its contract: what was seen and the rest together say what the whole says. Assumes nothing.
use Rattle.std.proofs.Common.{◌^◌, ltb, get_or}
use Rattle.laws.proofs.Judged.{Judged}
use Rattle.attributes.specs.Kinds.{sample_p}
use Rattle.attributes.specs.Evaluating.{right}
use Rattle.attributes.proofs.proportions.U64Size.are_right.Given as goal

abbrev pub invariant-loop-i : goal.invariant-loop-i
invariant-loop-i l =
    Judged (λ k. right (sample_p (get_or l.counts k 0) (get_or l.sizes k 0))) l.count l.i (ltb l.bits (2 ^ 32))
