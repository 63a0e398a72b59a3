-- The calls that make a chart, change it and ask whether it is one. Where a slice is stated by the number that is answered, the answers
-- coincide first. Assumes nothing.
use mathlib.Core.Path.{sym, ap, ap₂, ◌∙◌}
use mathlib.Core.List.{List}
use Prim.Native.Nat.{ℕ}
use lib.Ieee.{Float}
use Rattle.std.specs.Prelude.{Result}
use Rattle.charts.specs.declared.Chart.{Chart}
use Rattle.charts.specs.declared.Refusal.{Refusal}
use Rattle.charts.specs.Records.{no_chart, values_after}
use Rattle.charts.proofs.Answers.{changed-one}
use Rattle.charts.proofs.RefusalNumbered.number.Reads as number
use Rattle.charts.proofs.RefusalNumbered.number.Kinds as number-kinds
use Rattle.charts.proofs.Chart.new.Reads as new
use Rattle.charts.proofs.Chart.new.Kinds as new-kinds
use Rattle.charts.proofs.Chart.kind_wrong.Reads as kind-wrong
use Rattle.charts.proofs.Chart.kind_wrong.Kinds as kind-wrong-kinds
use Rattle.charts.proofs.Chart.own_wrong.Reads as own-wrong
use Rattle.charts.proofs.Chart.own_wrong.Kinds as own-wrong-kinds
use Rattle.charts.proofs.Chart.record_wrong.Reads as record-wrong
use Rattle.charts.proofs.Chart.record_wrong.Kinds as record-wrong-kinds
use Rattle.charts.proofs.Chart.with_set.Reads as with-set
use Rattle.charts.proofs.Chart.with_set.Kinds as with-set-kinds
use Rattle.charts.proofs.Chart.with_stops.Reads as with-stops
use Rattle.charts.proofs.Chart.with_stops.Kinds as with-stops-kinds
use Rattle.charts.proofs.Chart.add.Reads as add
use Rattle.charts.proofs.Chart.add.Kinds as add-kinds
use Rattle.promises.proofs.Coincide.{Coincide}

refusal-number-one : Coincide 1 number-kinds.ps number-kinds.r number.Post (λ κs x s. x)
refusal-number-one κs a x y s t p q = p ∙ sym q

new-one : Coincide 0 new-kinds.ps new-kinds.r new.Post (λ κs x s. x)
new-one κs a x y s t p q = changed-one no_chart x y (p ∙ sym q)

kind-wrong-one : Coincide 0 kind-wrong-kinds.ps kind-wrong-kinds.r kind-wrong.Post (λ κs x s. x)
kind-wrong-one κs a x y s t p q = p ∙ sym q

own-wrong-one : Coincide 0 own-wrong-kinds.ps own-wrong-kinds.r own-wrong.Post (λ κs x s. x)
own-wrong-one κs a x y s t p q = p ∙ sym q

record-wrong-one : Coincide 0 record-wrong-kinds.ps record-wrong-kinds.r record-wrong.Post (λ κs x s. x)
record-wrong-one κs a x y s t p q = p ∙ sym q

with-set-one : Coincide 0 with-set-kinds.ps with-set-kinds.r with-set.Post (λ κs x s. x)
with-set-one κs a x y s t p q = changed-one a.0 x y (p ∙ sym q)

with-stops-one : Coincide 0 with-stops-kinds.ps with-stops-kinds.r with-stops.Post (λ κs x s. x)
with-stops-one κs a x y s t p q = changed-one a.0 x y (p ∙ sym q)

add-one : Coincide 2 add-kinds.ps add-kinds.r add.Post {Seen = Result Chart Refusal × List Float} (λ κs x s. (x, s.1.0.now))
add-one κs a x y s t p q =
    let number = ap (λ (r : ℕ × Chart). r.0) (p.0 ∙ sym q.0) in
    ap₂ (λ (u : Result Chart Refusal) (v : List Float). (u, v)) (changed-one a.0 x y (p.0 ∙ sym q.0))
    (p.1 ∙ ap (λ (n : ℕ). values_after n a.0 a.1.1.0.now a.1.0.now) number ∙ sym q.1)
