-- `answer::put_found` meets its contract. Assumes nothing.
use mathlib.Core.List.{[], ◌∷◌}
use Rattle.std.proofs.lemmas.Result.{on_ok_weaker}
use Rattle.lists.specs.Ours.{all_bits}
use Rattle.lists.proofs.InGroups.{put_one, put_then}
use Rattle.replay_charts.specs.Answer.{lines_of, rows, series_of}
use Rattle.replay_charts.proofs.answer.put_found.Goals as goal

pub returns : goal.returns
returns c =
    let a = c.args in
    on_ok_weaker c.put_counts.result
    (λ e. put_then a.ours.now (all_bits (lines_of a.found)) _ c.in_ok-put_row.ensures
    (put_then _ (_ ∷ []) _ (put_one _ _ c.in_ok-put.ensures) (put_then _ (series_of (rows a.series)) _ c.in_ok-put_series.ensures e)))
    c.put_counts.ensures
