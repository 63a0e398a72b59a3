-- `answer::put_series` meets its contract. Assumes nothing.
use mathlib.Core.List.{◌++◌}
use Rattle.std.proofs.lemmas.Result.{on_ok_weaker}
use Rattle.lists.specs.Ours.{all_bits}
use Rattle.lists.proofs.InGroups.{put_plain, put_then}
use Rattle.replay_charts.proofs.answer.put_series.Goals as goal

pub returns : goal.returns
returns c =
    let s = c.args.series in
    on_ok_weaker c.put_row-4.result
    (λ e.
    put_then c.args.ours.now (all_bits s.main.now ++ all_bits s.dispersion.now ++ s.main_marks.now) s.dispersion_marks.now
    (put_then c.args.ours.now (all_bits s.main.now ++ all_bits s.dispersion.now) s.main_marks.now
    (put_then c.args.ours.now (all_bits s.main.now) (all_bits s.dispersion.now) c.in_ok-put_row.ensures c.in_ok-put_row-2.ensures)
    (put_plain _ s.main_marks.now c.in_ok-put_row-3.ensures))
    (put_plain _ s.dispersion_marks.now e))
    c.put_row-4.ensures
