-- `checks::adding` meets its contract: its tests are those of the definition, in the same order. Assumes nothing.
use Rattle.std.proofs.Common.{sym, ap, ◌∙◌, le-leb}
use Rattle.std.proofs.lemmas.Result.{err_from_is_err_and}
use borrow.Author.Tests.{lt-leb}
use Rattle.laws.proofs.Refusals.{passed, refused, none-applies}
use Rattle.attributes.specs.Steps.{tested}
use Rattle.attributes.proofs.Adding.{own-refused, own-passed}
use Rattle.attributes.proofs.checks.adding.Goals as goal

pub returns-then-wrong : goal.returns-then-wrong
returns-then-wrong c =
    sym (refused _ _ _ _ c.if-wrong.true)

pub returns-in_err-sample : goal.returns-in_err-sample
returns-in_err-sample c =
    let p = err_from_is_err_and c.from_residual.result c.from_residual.ensures.1 in
    let is = c.in_err-sample.was in
    rw (p.1, p.2) (sym (ap tested is) ∙ sym (passed _ _ _ _ c.if-wrong.false ∙ refused _ _ _ _ (own-refused is)))

pub returns-then-count-ge-ROOM : goal.returns-then-count-ge-ROOM
returns-then-count-ge-ROOM c =
    sym (passed _ _ _ _ c.if-wrong.false ∙ passed _ _ _ _ (own-passed c.in_ok-sample.was) ∙ refused _ _ _ _ (le-leb _ _ c.if-count-ge-ROOM.true))

pub returns-then-counts-count : goal.returns-then-counts-count
returns-then-counts-count c =
    sym (passed _ _ _ _ c.if-wrong.false ∙ passed _ _ _ _ (own-passed c.in_ok-sample.was) ∙ passed _ _ _ _ (lt-leb _ _ c.if-count-ge-ROOM.false) ∙ refused _ _ _ _ c.if-counts-count.true)

pub returns : goal.returns
returns c =
    sym (passed _ _ _ _ c.if-wrong.false ∙ passed _ _ _ _ (own-passed c.in_ok-sample.was) ∙ passed _ _ _ _ (lt-leb _ _ c.if-count-ge-ROOM.false) ∙ passed _ _ _ _ c.if-counts-count.false ∙ none-applies _)
