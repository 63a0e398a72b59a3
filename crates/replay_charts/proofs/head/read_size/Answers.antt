-- `head::read_size` meets its contract. Assumes nothing.
use mathlib.Core.Path.{sym, ◌∙◌}
use borrow.Author.Tests.{eq-eqb, ne_eqb}
use Rattle.replay_charts.specs.Head.{size_from}
use Rattle.replay_charts.proofs.head.read_size.Goals as goal

pub returns-then-from-eq-INDIVIDUALS-clause-result_value : goal.returns-then-from-eq-INDIVIDUALS-clause-result_value
unfolding size_from
returns-then-from-eq-INDIVIDUALS-clause-result_value c =
    c.read_small.ensures.result_value ∙ simp (eq-eqb _ _ (sym c.from.ensures ∙ c.if-from-eq-INDIVIDUALS.true))

pub returns-clause-result_value : goal.returns-clause-result_value
unfolding size_from
returns-clause-result_value c =
    c.read_small-2.ensures.result_value ∙ simp (ne_eqb _ _ (λ e. c.if-from-eq-INDIVIDUALS.false (c.from.ensures ∙ e)))
