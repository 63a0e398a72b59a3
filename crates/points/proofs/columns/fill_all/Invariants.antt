-- `columns::fill_all` meets its contract: the entries of all are written one after the other, and each point is asked. Assumes nothing.
use Rattle.points.specs.Steps.{plot_by}
use Rattle.points.proofs.Filled.{Columns}
use Rattle.points.proofs.columns.fill_all.Given as goal

abbrev pub invariant-loop-i : goal.invariant-loop-i
invariant-loop-i l =
    Columns (plot_by l.cl l.values l.initial.ucl) l.initial.lcl l.initial.out l.initial.z l.initial.has_z l.ucl l.lcl l.out l.z l.has_z l.all l.i
