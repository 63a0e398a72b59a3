-- `rules::lines_of` meets its contract: its operations are those of the definition, on the widths. Assumes nothing.
use mathlib.Core.Path.{ap}
use Rattle.rules.specs.Lines.{lines_by, lines_of}
use Rattle.rules.proofs.lines_of.Goals as goal

pub returns : goal.returns
unfolding lines_of
returns c =
    ap (lines_by _) c.widths_of-w.ensures
