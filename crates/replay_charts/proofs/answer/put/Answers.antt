-- `answer::put` meets its contract. Assumes nothing.
use mathlib.Core.Path.{◌≡◌, sym, ap, ◌∙◌}
use mathlib.Core.Bool.{true, false}
use mathlib.Core.List.{[], ◌∷◌, ◌++◌}
use Rattle.std.proofs.lemmas.Result.{on_ok_weaker}
use Rattle.groups.specs.Groups.{groups}
use Rattle.lists.proofs.InGroups.{put_one, put_then}
use Rattle.charts.specs.Records.{number}
use Rattle.replay_charts.specs.Answer.{apart, figures_of, answer_of}
use Rattle.replay_charts.specs.Held.{told}
use Rattle.replay_charts.proofs.answer.put.Goals as goal

pub returns-in-Ok : goal.returns-in-Ok
unfolding answer_of
returns-in-Ok c =
    let old = c.args.ours.now in
    let told_is = c.from.ensures ∙ c.number-number.ensures ∙ ap told c.in-Ok.is in
    rw c.in-Ok.is
    (on_ok_weaker c.put_found.result (put_then old (0 ∷ []) _ (put_one old 0 (c.in_ok-put.ensures ∙ ap (λ n. old ++ groups n) told_is))) c.put_found.ensures)

pub returns-in-Err : goal.returns-in-Err
unfolding answer_of
returns-in-Err c =
    let old = c.args.ours.now in
    let why = c.in-Err.field-0 in
    let told_is = c.from.ensures ∙ c.number-number.ensures ∙ ap told c.in-Err.is in
    let asked = c.from-in-Err-1.ensures ∙ c.number-number.ensures ∙ ap told c.in-Err.is in
    let follow : apart (number why) ≡ true = ap apart (sym asked) ∙ sym c.apart.ensures ∙ c.if-apart.true in
    rw (c.in-Err.is, follow)
    (on_ok_weaker c.put_figures.result
    (put_then old (number why ∷ []) (figures_of c.args.answers)
    (put_one old (number why) (c.in_ok-put.ensures ∙ ap (λ n. old ++ groups n) told_is)))
    c.put_figures.ensures)

pub returns-in-Err-2 : goal.returns-in-Err-2
unfolding answer_of
returns-in-Err-2 c =
    let old = c.args.ours.now in
    let why = c.in-Err.field-0 in
    let told_is = c.from.ensures ∙ c.number-number.ensures ∙ ap told c.in-Err.is in
    let asked = c.from-in-Err-1.ensures ∙ c.number-number.ensures ∙ ap told c.in-Err.is in
    let alone : apart (number why) ≡ false = ap apart (sym asked) ∙ sym c.apart.ensures ∙ c.if-apart.false in
    rw (c.in-Err.is, alone) (put_one old (number why) (c.in_ok-put.ensures ∙ ap (λ n. old ++ groups n) told_is))
