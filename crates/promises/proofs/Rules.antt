-- Marking, the lines of limits, and the window of a test. Assumes nothing.
use mathlib.Core.Path.{sym, ap₂, ◌∙◌}
use mathlib.Core.List.{List}
use Prim.Native.Nat.{ℕ}
use Rattle.std.specs.Prelude.{Result, ⊤}
use Rattle.rules.specs.declared.Refusal.{Refusal}
use Rattle.rules.specs.Terms.{told}
use Rattle.rules.proofs.Answers.{numbered-one}
use Rattle.rules.proofs.mark.Reads as mark
use Rattle.rules.proofs.mark.Kinds as mark-kinds
use Rattle.rules.proofs.RefusalNumbered.number.Reads as refusal-number
use Rattle.rules.proofs.RefusalNumbered.number.Kinds as refusal-number-kinds
use Rattle.rules.proofs.finite_limits.Reads as finite-limits
use Rattle.rules.proofs.finite_limits.Kinds as finite-limits-kinds
use Rattle.rules.proofs.lines_of.Reads as lines_of
use Rattle.rules.proofs.lines_of.Kinds as lines-of-kinds
use Rattle.rules.proofs.window.Reads as window
use Rattle.rules.proofs.window.Kinds as window-kinds
use Rattle.rules.proofs.Terms.alone.Reads as alone
use Rattle.rules.proofs.Terms.alone.Kinds as alone-kinds
use Rattle.promises.proofs.Coincide.{Coincide}

mark-one : Coincide 3 mark-kinds.ps mark-kinds.r mark.Post {Seen = Result ⊤ Refusal × List ℕ} (λ κs x s. (x, s.1.1.1.0.now))
mark-one κs a x y s t p q =
    ap₂ (λ (u : Result ⊤ Refusal) (v : List ℕ). (u, v)) (numbered-one x y (p.0 ∙ sym q.0)) (p.1 ∙ sym q.1)

refusal-number-one : Coincide 1 refusal-number-kinds.ps refusal-number-kinds.r refusal-number.Post (λ κs x s. x)
refusal-number-one κs a x y s t p q = p ∙ sym q

finite-limits-one : Coincide 0 finite-limits-kinds.ps finite-limits-kinds.r finite-limits.Post (λ κs x s. x)
finite-limits-one κs a x y s t p q = p ∙ sym q

lines-of-one : Coincide 0 lines-of-kinds.ps lines-of-kinds.r lines_of.Post (λ κs x s. x)
lines-of-one κs a x y s t p q = p ∙ sym q

window-one : Coincide 0 window-kinds.ps window-kinds.r window.Post (λ κs x s. x)
window-one κs a x y s t p q = p ∙ sym q

-- `told`: where a part of no entries lies is not said
alone-one : Coincide 1 alone-kinds.ps alone-kinds.r alone.Post (λ κs x s. told x)
alone-one κs a x y s t p q = p ∙ sym q
