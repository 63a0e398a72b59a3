-- `checks::check` meets its contract: its tests are those of the definition, in the same order. Assumes nothing.
use Rattle.std.proofs.Common.{sym, ◌∙◌, eq-eqb, ne_eqb}
use Rattle.laws.proofs.Refusals.{passed, refused, none-applies}
use Rattle.attributes.proofs.checks.check.Goals as goal

pub returns-then-wrong : goal.returns-then-wrong
returns-then-wrong c =
    sym (refused _ _ _ _ c.if-wrong.true)

pub returns-then-count-eq0 : goal.returns-then-count-eq0
returns-then-count-eq0 c =
    sym (passed _ _ _ _ c.if-wrong.false ∙ refused _ _ _ _ (eq-eqb _ _ c.if-count-eq0.true))

pub returns-then-short : goal.returns-then-short
returns-then-short c =
    sym (passed _ _ _ _ c.if-wrong.false ∙ passed _ _ _ _ (ne_eqb _ _ c.if-count-eq0.false) ∙ refused _ _ _ _ c.if-short.true)

pub returns : goal.returns
returns c =
    sym (passed _ _ _ _ c.if-wrong.false ∙ passed _ _ _ _ (ne_eqb _ _ c.if-count-eq0.false) ∙ passed _ _ _ _ c.if-short.false ∙ none-applies _)
