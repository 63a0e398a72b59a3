-- Evidence: of a part of a series a caller gets its block of memory, its place there and its values. Assumes nothing.
use mathlib.Core.Path.{sym, ap₂, ◌∙◌}
use mathlib.Core.List.{List}
use Prim.Native.Nat.{ℕ}
use lib.Ieee.{Float}
use Rattle.evidence.proofs.evidence.Reads as evidence
use Rattle.evidence.proofs.evidence.Kinds as evidence-kinds
use Rattle.promises.proofs.Coincide.{Coincide}

evidence-one : Coincide 2 evidence-kinds.ps evidence-kinds.r evidence.Post {Seen = ℕ × ℕ × List Float} (λ κs x s. (x.ref_ptr.0, x.ref_ptr.1, x.now))
evidence-one κs a x y s t p q =
    ap₂ (λ (u : ℕ) (v : ℕ × List Float). (u, v.0, v.1)) (p.block ∙ sym q.block)
    (ap₂ (λ (u : ℕ) (v : List Float). (u, v)) (p.place ∙ sym q.place) (p.values ∙ sym q.values))
