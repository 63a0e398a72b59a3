-- `Size::are_right` of units meets its contract: what was seen and the rest together say what the whole says. Assumes nothing.
use Rattle.std.proofs.Common.{◌≡◌, sym, refl, ◌∙◌}
use Rattle.laws.proofs.Judged.{judged-next, judged-all}
use Rattle.attributes.specs.Kinds.{rates}
use Rattle.attributes.specs.Evaluating.{stored_right}
use Rattle.attributes.proofs.Held.{counts-fit-U}
use Rattle.attributes.proofs.rates.F64Size.are_right.Goals as goal

pub loop-i-preserved : goal.loop-i-preserved
loop-i-preserved c =
    judged-next _ _ _ _ c.loop-i.invariant _ c.loop-i-test.true c.sample_right-all.ensures

pub returns : goal.returns
unfolding stored_right
returns c =
    let args = c.args in
    let is : c.loop-i.all ≡ stored_right rates args.count args.counts.now args.sizes.now = judged-all _ _ _ _ c.loop-i.invariant c.loop-i-test.false in
    record { is = is; counts = λ e. counts-fit-U _ _ _ (sym is ∙ e); sizes = λ e i k. refl }
