-- The report of a flow file. Assumes nothing.
use mathlib.Core.Path.{sym, ap₂, ◌∙◌}
use mathlib.Core.List.{List}
use Prim.Native.Nat.{ℕ}
use Rattle.std.specs.Prelude.{Result}
use Rattle.groups.specs.declared.TooShort.{TooShort}
use Rattle.reports.proofs.Answers.{reported-one}
use Rattle.reports.proofs.report.Reads as report
use Rattle.reports.proofs.report.Kinds as report-kinds
use Rattle.promises.proofs.Coincide.{Coincide}

report-one : Coincide 2 report-kinds.ps report-kinds.r report.Post {Seen = Result ℕ TooShort × List ℕ} (λ κs x s. (x, s.1.0.now))
report-one κs a x y s t p q =
    ap₂ (λ (u : Result ℕ TooShort) (v : List ℕ). (u, v)) (reported-one x y (p.0 ∙ sym q.0)) (p.1 ∙ sym q.1)
