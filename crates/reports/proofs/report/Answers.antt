-- `report` meets its contract: the bytes are read, and the chart is told. Assumes nothing.
use mathlib.Core.Path.{sym, ap, ◌∙◌}
use Rattle.reports.specs.Text.{r_line}
use Rattle.reports.specs.Report.{text_on, text_of}
use Rattle.laws.proofs.Rooms.{told-as}
use Rattle.reports.proofs.report.Goals as goal

pub returns-in-Err : goal.returns-in-Err
unfolding text_of
returns-in-Err c =
    let told = ap r_line c.number.ensures ∙ sym (ap text_on c.in-Err.ensures.said) in
    let all = told-as _ _ c.args.out.now told (c.refuse.ensures.answer, c.refuse.ensures.room) in
    record { answer = all.0; room = all.1 }

pub returns-in-Ok : goal.returns-in-Ok
unfolding text_of
returns-in-Ok c =
    let all = told-as _ _ c.args.out.now (sym (ap text_on c.in-Ok.ensures.said)) (c.report_chart.ensures.answer, c.report_chart.ensures.room) in
    record { answer = all.0; room = all.1 }
