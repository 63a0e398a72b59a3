-- `lists::row::read_row` meets its contract: its loop reads a row. Assumes nothing.
use Rattle.lists.proofs.Rows.{Reads}
use Rattle.lists.proofs.row.read_row.Given as goal

abbrev pub invariant-loop-entry : goal.invariant-loop-entry
invariant-loop-entry g l =
    Reads (g.T.Entry.found l.list l.item) l.initial.out l.at l.out l.next l.entry-index
