-- `Chart::add` meets its contract: refused, or the sample stands behind the others. Assumes nothing.
use Rattle.std.proofs.Common.{rules, false, sym, refl, ap, ◌∙◌, arith}
use Rattle.std.proofs.lemmas.Result.{err_from_is_err_and}
use Rattle.attributes.specs.Records.{add, kept_after}
use Rattle.attributes.specs.Steps.{tested}
use Rattle.attributes.proofs.Held.{fits}
use Rattle.attributes.proofs.Adding.{numbered, some-of, add-refused, add_done, kept-refused}
use Rattle.attributes.proofs.Chart.add.Goals as goal

-- where the tests are passed there is room for the sample

pub offset_bounds-counts-at : goal.offset_bounds-counts-at
offset_bounds-counts-at g c =
    let room = fits _ _ _ _ _ (sym c.adding.ensures ∙ ap tested c.in_ok-adding.was) in
    omega (arith, room.in-counts)

pub bounds-counts-at : goal.bounds-counts-at
bounds-counts-at g c =
    let room = fits _ _ _ _ _ (sym c.adding.ensures ∙ ap tested c.in_ok-adding.was) in
    room.in-counts

pub offset_bounds-sizes-at : goal.offset_bounds-sizes-at
offset_bounds-sizes-at g c =
    let room = fits _ _ _ _ _ (sym c.adding.ensures ∙ ap tested c.in_ok-adding.was) in
    search (rules, room.in-sizes)

pub bounds-sizes-at : goal.bounds-sizes-at
bounds-sizes-at g c =
    let room = fits _ _ _ _ _ (sym c.adding.ensures ∙ ap tested c.in_ok-adding.was) in
    room.in-sizes

pub overflow_add-result : goal.overflow_add-result
overflow_add-result g c =
    let room = fits _ _ _ _ _ (sym c.adding.ensures ∙ ap tested c.in_ok-adding.was) in
    omega (arith, room.few)

pub returns-in_err-adding : goal.returns-in_err-adding
unfolding add
returns-in_err-adding g c =
    let args = c.args in
    let own = c.sample-sample.ensures in
    let sample = g.S.Size.kind.sample args.damaged args.size in
    let some = some-of false sample args.self.count _ _ own.numbers in
    let found = numbered c.sample-sample.result sample args.self.count _ _ c.record_wrong-wrong.ensures own.tests own.numbers c.adding.ensures in
    let is = c.in_err-adding.was in
    let p = err_from_is_err_and c.from_residual.result c.from_residual.ensures.1 in
    rw (p.1, p.2)
    (record {
      answer = add-refused _ args.self _ some c.adding.result found is;
      counts = kept-refused is args.self.count args.damaged _;
      sizes = kept-refused is args.self.count args.size _;
    })

pub returns : goal.returns
unfolding add kept_after
returns g c =
    let args = c.args in
    let own = c.sample-sample.ensures in
    let sample = g.S.Size.kind.sample args.damaged args.size in
    let some = some-of false sample args.self.count _ _ own.numbers in
    let found = numbered c.sample-sample.result sample args.self.count _ _ c.record_wrong-wrong.ensures own.tests own.numbers c.adding.ensures in
    record { answer = add_done _ args.self _ some c.adding.result found c.in_ok-adding.was; counts = refl; sizes = refl }
