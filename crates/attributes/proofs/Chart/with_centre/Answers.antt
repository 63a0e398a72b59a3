-- `Chart::with_centre` meets its contract, by its test. Assumes nothing.
use Rattle.std.proofs.Common.{sym, ◌∙◌}
use Rattle.laws.proofs.Bools.{told-against}
use Rattle.laws.proofs.Refusals.{passed, refused, none-applies}
use Rattle.attributes.specs.Records.{with_centre}
use Rattle.attributes.proofs.Chart.with_centre.Goals as goal

pub returns-then-not-allows : goal.returns-then-not-allows
unfolding with_centre
returns-then-not-allows g c =
    sym (refused _ _ _ _ (told-against c.allows.ensures c.if-not-allows.true))

pub returns : goal.returns
unfolding with_centre
returns g c =
    sym (passed _ _ _ _ (told-against c.allows.ensures c.if-not-allows.false) ∙ none-applies _)
