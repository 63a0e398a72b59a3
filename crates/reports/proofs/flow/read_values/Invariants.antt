-- `flow::read_values` meets its contract: its loop reads the values one by one. Assumes nothing.
use Rattle.reports.specs.Steps.{size}
use Rattle.reports.proofs.Values.{Reads}
use Rattle.reports.proofs.flow.read_values.Given as goal

abbrev pub invariant-loop-value : goal.invariant-loop-value
invariant-loop-value l =
    Reads l.s l.fn.chart (size l.fn.chart) l.fn.from l.initial.values l.values l.at l.value-index
