-- `tell` meets its contract: the text is counted, and then written. Assumes nothing.
use mathlib.Core.Path.{ap}
use Prim.Native.Nat.{ℕ}
use Rattle.reports.specs.Report.{first_index}
use Rattle.reports.specs.TextSteps.{text_by}
use Rattle.reports.proofs.Putting.{put_as}
use Rattle.reports.proofs.Telling.{told-short, told-whole}
use Rattle.reports.proofs.tell.Goals as goal

pub put_chart-n-requires : goal.put_chart-n-requires
put_chart-n-requires c =
    rw c.first_index-first.ensures.0 c.requires

pub returns-then-out-n : goal.returns-then-out-n
returns-then-out-n c =
    let is = ap (λ (first : ℕ). text_by c.args.chart c.args.e first c.args.marks.now c.args.others.now) c.first_index-first.ensures.0 in
    let all = told-short ((λ (first : ℕ). text_by c.args.chart c.args.e first c.args.marks.now c.args.others.now) (first_index c.args.chart)) c.args.out.now _ _ (put_as is c.put_chart-n.ensures) c.if-out-n.true in
    record { answer = all.0; room = all.1 }

pub put_chart-requires : goal.put_chart-requires
put_chart-requires c =
    let pre = c.requires in
    rw c.first_index-first.ensures.0 pre

pub returns : goal.returns
returns c =
    let is = ap (λ (first : ℕ). text_by c.args.chart c.args.e first c.args.marks.now c.args.others.now) c.first_index-first.ensures.0 in
    let all = told-whole ((λ (first : ℕ). text_by c.args.chart c.args.e first c.args.marks.now c.args.others.now) (first_index c.args.chart)) c.args.out.now _ _ (put_as is c.put_chart-n.ensures) c.if-out-n.false _ _
    (put_as is c.put_chart.ensures) in
    record { answer = all.0; room = all.1 }
