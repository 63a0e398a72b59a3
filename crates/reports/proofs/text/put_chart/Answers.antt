-- `text::put_chart` meets its contract: its lines, one after the other. Assumes nothing.
use mathlib.Core.Path.{ap}
use mathlib.Core.List.{[], ◌∷◌}
use Prim.Native.Nat.{ℕ}
use Rattle.reports.specs.declared.text.Word.TheVariants.{Decimal}
use Rattle.reports.specs.Text.{line}
use Rattle.reports.specs.TextSteps.{Put, words_of}
use Rattle.reports.proofs.Charts.{chart-lines}
use Rattle.reports.proofs.Putting.{put_as, put_both}
use Rattle.reports.proofs.text.put_chart.Goals as goal

pub returns : goal.returns
returns g c =
    let args = c.args in
    let head = ap (λ (n : ℕ). line 67 (words_of (Decimal args.chart.kind ∷ Decimal args.chart.size ∷ Decimal n ∷ []))) c.from.ensures in
    let number : Put _ (line 69 (words_of (Decimal args.e.marks ∷ []))) _ _ _ _ = c.put_line.ensures in
    put_as
    (chart-lines args.chart.kind args.chart.size args.chart.set.mask args.e.main args.e.dispersion args.first
    args.marks.now args.others.now args.e.marks c.requires.number)
    (put_both (put_as head c.put_line-one.ensures)
    (put_both c.put_limits-two.ensures
    (put_both c.put_limits-three.ensures
    (put_both c.put_marks-four.ensures
    (put_both c.put_marks-five.ensures number)))))
