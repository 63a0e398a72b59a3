-- `lists::row::read_row` meets its contract: its loop reads a row. Assumes nothing.
use mathlib.Core.Path.{sym, ◌∙◌}
use Rattle.std.proofs.lemmas.List.{set-get_or}
use Rattle.std.proofs.lemmas.Result.{err_from_is_err_and}
use Rattle.lists.proofs.Rows.{reads-starts, reads-goes-on, reads-stops, reads-ends}
use Rattle.lists.proofs.row.read_row.Goals as goal

pub loop-entry-init : goal.loop-entry-init
loop-entry-init g c =
    reads-starts (g.T.Entry.found _ _) _ _

pub returns-in_err-read : goal.returns-in_err-read
returns-in_err-read g c =
    let p = err_from_is_err_and c.from_residual.result c.from_residual.ensures.1 in
    let all = reads-stops c.loop-entry.invariant c.loop-entry-test.true (sym c.in_err-read.ensures) in
    record { result_value = rw (p.1, p.2) all.0; values = set-get_or _ _ _ ∙ all.1 }

pub loop-entry-preserved : goal.loop-entry-preserved
loop-entry-preserved g c =
    reads-goes-on c.loop-entry.invariant c.loop-entry-test.true (sym c.in_ok-read.ensures)

pub returns : goal.returns
returns g c =
    let all = reads-ends c.loop-entry.invariant c.loop-entry-test.false in
    record { result_value = all.0; values = all.1 }
