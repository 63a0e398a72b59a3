-- `answer::put_counts` meets its contract. Assumes nothing.
use mathlib.Core.Path.{ap, ◌∙◌}
use mathlib.Core.List.{[], ◌∷◌, ◌++◌}
use Rattle.std.proofs.lemmas.Result.{on_ok_weaker}
use Rattle.groups.specs.Groups.{groups}
use Rattle.lists.proofs.InGroups.{put_one, put_then}
use Rattle.laws.specs.Bools.{one}
use Rattle.replay_charts.specs.Answer.{figures_of}
use Rattle.replay_charts.proofs.answer.put_counts.Goals as goal

pub returns : goal.returns
returns c =
    let a = c.args in
    let told = one a.answers.none_stands in
    on_ok_weaker c.put_figures.result
    (λ e. put_then a.ours.now (a.marks ∷ []) (told ∷ figures_of a.answers) (put_one a.ours.now a.marks c.in_ok-put.ensures)
    (put_then _ (told ∷ []) (figures_of a.answers) (put_one _ told (c.in_ok-put-2.ensures ∙ ap (λ n. c.put.new.self ++ groups n) c.from.ensures)) e))
    c.put_figures.ensures
