-- `answer::put_figure` meets its contract. Assumes nothing.
use mathlib.Core.Path.{ap, ◌∙◌}
use mathlib.Core.List.{[], ◌∷◌, ◌++◌}
use Rattle.std.proofs.lemmas.Result.{on_ok_weaker}
use Rattle.groups.specs.Groups.{groups}
use Rattle.lists.proofs.InGroups.{put_one, put_then}
use Rattle.replay_charts.proofs.answer.put_figure.Goals as goal

pub returns-in_ok-put-in-Ok : goal.returns-in_ok-put-in-Ok
returns-in_ok-put-in-Ok c =
    let old = c.args.ours.now in
    rw (c.in-Ok.is, ← c.bits.ensures)
    (on_ok_weaker c.put-in-Ok.result (λ e. put_then old (0 ∷ []) (c.bits.result ∷ []) (put_one old 0 c.in_ok-put-in-Ok.ensures) (put_one _ _ e)) c.put-in-Ok.ensures)

pub returns-in-Err : goal.returns-in-Err
returns-in-Err c =
    let old = c.args.ours.now in
    rw c.in-Err.is
    (on_ok_weaker c.put-in-Err.result (λ e. put_one old _ (e ∙ ap (λ n. old ++ groups n) (c.from.ensures ∙ c.number.ensures))) c.put-in-Err.ensures)
