-- `answer::put` meets its contract. Assumes nothing.
use mathlib.Core.Path.{ap, ◌∙◌}
use mathlib.Core.List.{[], ◌∷◌, ◌++◌}
use Rattle.std.proofs.lemmas.Result.{on_ok_weaker}
use Rattle.groups.specs.Groups.{groups}
use Rattle.lists.proofs.InGroups.{put_one, put_plain, put_then}
use Rattle.replay_marks.proofs.answer.put.Goals as goal

pub returns-then-not-stopped : goal.returns-then-not-stopped
returns-then-not-stopped c =
    rw c.if-not-stopped.true (on_ok_weaker c.put_row.result (put_plain c.args.ours.now c.args.marks.now) c.put_row.ensures)

pub returns : goal.returns
returns c =
    let a = c.args in
    let number = put_one a.ours.now a.number (c.in_ok-put.ensures ∙ ap (λ n. a.ours.now ++ groups n) c.from.ensures) in
    rw c.if-not-stopped.false
    (on_ok_weaker c.put_row-2.result (λ e. put_then a.ours.now (a.number ∷ []) a.marks.now number (put_plain _ a.marks.now e)) c.put_row-2.ensures)
