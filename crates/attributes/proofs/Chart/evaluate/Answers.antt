-- `Chart::evaluate` meets its contract: refused ahead of the arithmetic, or as the points are. Assumes nothing.
use Rattle.std.proofs.lemmas.Result.{err_from_is_err_and}
use Rattle.std.proofs.Common.{Bool, false, sym, ap, ◌∙◌, ap₂, arith}
use Rattle.laws.specs.Refusals.{first_of}
use Rattle.laws.proofs.Bools.{told}
use Rattle.floats.specs.Values.{plus_zero}
use Rattle.points.proofs.Plotting.{has_room}
use Rattle.attributes.specs.Evaluating.{chart_plot, evaluate}
use Rattle.attributes.specs.Steps.{tested, ahead}
use Rattle.attributes.proofs.Held.{were-ahead}
use Rattle.attributes.proofs.Outcomes.{answer-refused, slice-refused, finished}
use Rattle.attributes.proofs.Chart.evaluate.Goals as goal

-- what the tests leave once they are passed: the record is right, and the slices have room

pub centre_of-cl-requires : goal.centre_of-cl-requires
centre_of-cl-requires g c =
    let passed = were-ahead _ _ _ (sym c.check.ensures ∙ ap tested c.in_ok-check.was) in
    c.wrong-wrong.ensures.fine passed.right

pub fill-requires : goal.fill-requires
fill-requires g c =
    let passed = were-ahead _ _ _ (sym c.check.ensures ∙ ap tested c.in_ok-check.was) in
    let fine = c.wrong-wrong.ensures.fine passed.right in
    let room = has_room _ _ _ _ _ _ _ (told c.too_short-short.ensures passed.room) in
    (fine.in-sizes, room.in-ucl, fine.sizes-fit)

pub evaluate-requires : goal.evaluate-requires
evaluate-requires g c =
    let passed = were-ahead _ _ _ (sym c.check.ensures ∙ ap tested c.in_ok-check.was) in
    let fine = c.wrong-wrong.ensures.fine passed.right in
    let room = has_room _ _ _ _ _ _ _ (told c.too_short-short.ensures passed.room) in
    (fine.in-counts, room.in-values, omega (arith, room.in-ucl, c.fill.auto.out), room.in-lcl, room.in-out, room.in-z, room.in-has-z, fine.counts-fit)

pub returns-in_err-check : goal.returns-in_err-check
unfolding evaluate
returns-in_err-check g c =
    let args = c.args in
    let n = args.self.count in
    let plot = chart_plot g.S.Size.kind args.self args.counts.now args.sizes.now in
    let is = c.in_err-check.was in
    let found = c.check.ensures ∙ ap₂ (λ (w s : Bool). first_of (ahead w n s) 0) c.wrong-wrong.ensures.is c.too_short-short.ensures in
    let p = err_from_is_err_and c.from_residual.result c.from_residual.ensures.1 in
    rw (p.1, p.2)
    (record {
      answer = answer-refused _ n _ plot is found _;
      values = slice-refused _ n _ plot is found plus_zero _ _;
      ucl = slice-refused _ n _ plot is found plus_zero _ _;
      lcl = slice-refused _ n _ plot is found plus_zero _ _;
      out = slice-refused _ n _ plot is found false _ _;
      z = slice-refused _ n _ plot is found plus_zero _ _;
      has_z = slice-refused _ n _ plot is found false _ _;
    })

pub returns : goal.returns
unfolding evaluate chart_plot
returns g c =
    let args = c.args in
    let k = g.S.Size.kind in
    let n = args.self.count in
    let none = sym c.check.ensures ∙ ap tested c.in_ok-check.was in
    let passed = were-ahead _ _ _ none in
    let room = has_room _ _ _ _ _ _ _ (told c.too_short-short.ensures passed.room) in
    let is = ap₂ (λ (w s : Bool). first_of (ahead w n s) 0) c.wrong-wrong.ensures.is c.too_short-short.ensures in
    let all = finished args.counts.now n (k.sizes n args.sizes.now) args.ucl.now c.fill.ensures.many room.in-ucl
    c.fill.ensures.value c.centre_of-cl.ensures (c.variance-variance.ensures ∙ ap k.variance c.centre_of-cl.ensures)
    _ n _ args.values.now args.lcl.now args.out.now args.z.now args.has_z.now (sym is ∙ none) (c.evaluate.ensures.answer, (c.evaluate.ensures.values, (c.evaluate.ensures.ucl, (c.evaluate.ensures.lcl, (c.evaluate.ensures.out, (c.evaluate.ensures.z, c.evaluate.ensures.has_z)))))) in
    record { answer = all.0; values = all.1.0; ucl = all.1.1.0; lcl = all.1.1.1.0; out = all.1.1.1.1.0; z = all.1.1.1.1.1.0; has_z = all.1.1.1.1.1.1 }
