-- `Size::are_right` of parcels meets its contract: what was seen and the rest together say what the whole says. Assumes nothing.
use Rattle.std.proofs.Common.{◌≡◌, sym, ◌∙◌, leb}
use lib.Dec.{leb-suc-suc}
use Rattle.laws.proofs.Judged.{judged-all}
use Rattle.attributes.specs.Kinds.{proportions}
use Rattle.attributes.specs.Evaluating.{stored_right}
use Rattle.attributes.proofs.Held.{counts-fit-P, sizes-fit-P}
use Rattle.attributes.proofs.Samples.{judged-bits}
use Rattle.attributes.proofs.proportions.U64Size.are_right.Goals as goal

pub loop-i-preserved : goal.loop-i-preserved
loop-i-preserved c =
    judged-bits _ _ _ c.loop-i.bits c.excess-bits.result c.loop-i.invariant c.loop-i-test.true c.excess-bits.ensures

pub returns : goal.returns
unfolding stored_right
returns c =
    let args = c.args in
    let is : leb c.loop-i.bits 4294967295 ≡ stored_right proportions args.count args.counts.now args.sizes.now =
    sym (leb-suc-suc c.loop-i.bits 4294967295) ∙ judged-all _ _ _ _ c.loop-i.invariant c.loop-i-test.false in record {
      is = is;
      counts = λ e. counts-fit-P _ _ _ (sym is ∙ e);
      sizes = λ e. sizes-fit-P _ _ _ (sym is ∙ e);
    }
