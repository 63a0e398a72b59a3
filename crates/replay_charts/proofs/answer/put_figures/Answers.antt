-- `answer::put_figures` meets its contract. Assumes nothing.
use Rattle.std.proofs.lemmas.Result.{on_ok_weaker}
use Rattle.lists.proofs.InGroups.{put_then}
use Rattle.replay_charts.proofs.answer.put_figures.Goals as goal

pub returns : goal.returns
returns c =
    on_ok_weaker c.put_figure-2.result (put_then c.args.ours.now _ _ c.in_ok-put_figure.ensures) c.put_figure-2.ensures
