-- `totals::total` meets its contract: the sum is the total, which fits. Assumes nothing.
use Rattle.std.proofs.Common.{◌∙◌, arith}
use Rattle.std.proofs.lemmas.Iterator.{YieldsList-from_slice}
use Rattle.std.proofs.lemmas.Iterator.Consumers.{sum_from_yields_List, fits_from_yields_list}
use Rattle.attributes.proofs.Totalling.{total-most, total-sum}
use Rattle.attributes.proofs.totals.total.Goals as goal

pub sum-requires-clause-fits : goal.sum-requires-clause-fits
sum-requires-clause-fits c =
    let counts = c.args.counts.now in
    fits_from_yields_list c.iter.result _ (YieldsList-from_slice counts cc) (omega (arith, total-most counts c.requires.1, c.requires.0, total-sum counts))

pub returns : goal.returns
returns c =
    let counts = c.args.counts.now in
    let is = sum_from_yields_List c.iter.result _ c.sum.ensures.ran (YieldsList-from_slice counts cc) ∙ total-sum counts in
    omega (arith, is, total-most counts c.requires.1, c.requires.0)
