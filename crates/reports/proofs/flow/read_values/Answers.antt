-- `flow::read_values` meets its contract: its loop reads the values one by one. Assumes nothing.
use mathlib.Core.Path.{◌≡◌, sym, ap, ◌∙◌}
use native.Mathlib.Omega.{arith}
use borrow.Author.Rules.{rules}
use lib.Ieee.{Float}
use lib.Seq.{take_all}
use mathlib.Core.List.{List}
use Rattle.std.specs.Prelude.{Err}
use Rattle.reports.specs.declared.flow.Refusal.TheVariants.{Form}
use Rattle.reports.specs.Flow.{flow}
use Rattle.reports.specs.Steps.{size, said_by}
use Rattle.reports.proofs.Values.{reads-starts, reads-fault, reads-goes-on, reads_more, reads-ends}
use Rattle.reports.proofs.flow.read_values.Goals as goal

pub loop-value-init : goal.loop-value-init
loop-value-init c =
    let args = c.args in
    reads-starts args.s.now args.chart (size args.chart) args.from args.values.now

pub returns-in_err-read : goal.returns-in_err-read
returns-in_err-read c =
    let args = c.args in
    let told : c.from_residual.result ≡ Err Form = search rules in
    reads-fault args.s.now args.chart (size args.chart) args.from args.values.now c.loop-value.values c.loop-value.at c.loop-value.value-index c.loop-value.invariant
    (omega (arith, c.loop-value-test.true, c.requires, c.loop-value.invariant.same)) _ (sym c.in_err-read.ensures) ∙ sym (ap (said_by args.chart _) told)

pub loop-value-preserved : goal.loop-value-preserved
loop-value-preserved c =
    let args = c.args in
    rw c.of_bits.ensures
    (reads-goes-on args.s.now args.chart (size args.chart) args.from args.values.now c.loop-value.values c.loop-value.at c.loop-value.value-index c.loop-value.invariant
    (omega (arith, c.loop-value-test.true, c.requires, c.loop-value.invariant.same)) _ _ (sym c.in_ok-read.ensures) (omega (arith, c.requires)))

pub returns-then-at-s : goal.returns-then-at-s
returns-then-at-s c =
    let args = c.args in
    reads_more args.s.now args.chart (size args.chart) args.from args.values.now c.loop-value.values c.loop-value.at c.loop-value.value-index c.loop-value.invariant
    (omega (arith, c.loop-value-test.false, c.requires, c.loop-value.invariant.same)) c.if-at-s.true

pub returns : goal.returns
returns c =
    let args = c.args in
    reads-ends args.s.now args.chart (size args.chart) args.from args.values.now c.loop-value.values c.loop-value.at c.loop-value.value-index c.loop-value.invariant
    (omega (arith, c.loop-value-test.false, c.requires, c.loop-value.invariant.same)) c.if-at-s.false
    ∙ ap (λ (l : List Float). flow args.chart l) (take_all (size args.chart) c.loop-value.values (omega (arith, c.requires, c.loop-value.invariant.same)))
