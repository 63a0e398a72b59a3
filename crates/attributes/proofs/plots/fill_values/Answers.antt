-- `plots::fill_values` meets its contract: the entries are written one after the other. Assumes nothing.
use Rattle.std.proofs.Common.{ℕ, get_or, sym, ap, ◌∙◌, arith}
use lib.Ieee.{Float, nan, binary64, div}
use Rattle.laws.specs.Lists.{tabulate}
use Rattle.laws.proofs.Filling.{tabling-starts, tabling-goes-on, tabling-all}
use Rattle.floats.specs.Values.{whole}
use Rattle.attributes.proofs.plots.fill_values.Goals as goal

pub loop-i-init : goal.loop-i-init
loop-i-init c =
    tabling-starts _ _ _ (omega arith)

pub loop-i-preserved : goal.loop-i-preserved
loop-i-preserved c =
    tabling-goes-on _ _ _ _ _ c.loop-i.invariant _ (omega (arith, c.loop-i-test.true))
    (ap (λ (v : Float). div binary64 v (get_or c.args.sizes.now c.loop-i.i nan)) c.from.ensures)

pub returns : goal.returns
returns c =
    let args = c.args in
    let f : ℕ → Float = λ i. div binary64 (whole (get_or args.counts.now i 0)) (get_or args.sizes.now i nan) in
    tabling-all _ _ _ _ _ c.loop-i.invariant (omega arith) (omega (arith, c.loop-i-test.false))
    ∙ ap (tabulate f) (sym c.requires.1)
