-- `refuse` meets its contract: the line is counted, and then written. Assumes nothing.
use Rattle.reports.specs.Text.{r_line}
use Rattle.reports.proofs.Telling.{told-short, told-whole}
use Rattle.reports.proofs.refuse.Goals as goal

pub returns-then-out-n : goal.returns-then-out-n
returns-then-out-n c =
    let args = c.args in
    let all = told-short (r_line args.why) args.out.now _ _ c.put_refusal-n.ensures c.if-out-n.true in
    record { answer = all.0; room = all.1 }

pub returns : goal.returns
returns c =
    let args = c.args in
    let all = told-whole (r_line args.why) args.out.now _ _ c.put_refusal-n.ensures c.if-out-n.false _ _ c.put_refusal.ensures in
    record { answer = all.0; room = all.1 }
