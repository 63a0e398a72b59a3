-- `lists::ours::Bytes::put_row` meets its contract: those before the index were put. Assumes nothing.
use mathlib.Core.Path.{sym, ap, ◌∙◌}
use mathlib.Core.List.{◌++◌, append-nil}
use Rattle.groups.specs.Groups.{groups}
use Rattle.lists.specs.Ours.{in_groups}
use Rattle.lists.proofs.InGroups.{put_next}
use Rattle.lists.proofs.ours.Bytes.put_row.Goals as goal

pub loop-x-init : goal.loop-x-init
unfolding in_groups
loop-x-init g c =
    sym (append-nil c.args.self.now)

pub loop-x-preserved : goal.loop-x-preserved
loop-x-preserved g c =
    let l = c.loop-x in
    put_next g.T.Listed.listed c.args.xs.now l.x-index c.x-item.result c.loop-x-test.true c.x-item.is c.args.self.now l.invariant
    (c.in_ok-put.ensures ∙ ap (λ n. l.self ++ groups n) c.listed.ensures)
