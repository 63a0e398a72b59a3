-- The C functions. Assumes nothing.
use mathlib.Core.Path.{sym, ap₂, ◌∙◌}
use mathlib.Core.List.{List}
use Prim.Native.Nat.{ℕ}
use Rattle.twin.proofs.dramulenz_mark.Reads as mark
use Rattle.twin.proofs.dramulenz_mark.Kinds as mark-kinds
use Rattle.twin.proofs.dramulenz_check.Reads as check
use Rattle.twin.proofs.dramulenz_check.Kinds as check-kinds
use Rattle.twin.proofs.dramulenz_write.Reads as write
use Rattle.twin.proofs.dramulenz_write.Kinds as write-kinds
use Rattle.twin.proofs.dramulenz_root.Reads as root
use Rattle.twin.proofs.dramulenz_root.Kinds as root-kinds
use Rattle.twin.proofs.RefusalNumbered.number.Reads as refusal-number
use Rattle.twin.proofs.RefusalNumbered.number.Kinds as refusal-number-kinds
use Rattle.promises.proofs.Coincide.{Coincide}

mark-one : Coincide 2 mark-kinds.ps mark-kinds.r mark.Post {Seen = ℕ × List ℕ} (λ κs x s. (x, s.1.1.1.1.1.0.now))
mark-one κs a x y s t p q = ap₂ (λ (u : ℕ) (v : List ℕ). (u, v)) (p.0 ∙ sym q.0) (p.1 ∙ sym q.1)

check-one : Coincide 2 check-kinds.ps check-kinds.r check.Post (λ κs x s. x)
check-one κs a x y s t p q = p ∙ sym q

write-one : Coincide 2 write-kinds.ps write-kinds.r write.Post {Seen = ℕ × List ℕ} (λ κs x s. (x, s.1.1.1.1.1.0.now))
write-one κs a x y s t p q = ap₂ (λ (u : ℕ) (v : List ℕ). (u, v)) (p.0 ∙ sym q.0) (p.1 ∙ sym q.1)

root-one : Coincide 0 root-kinds.ps root-kinds.r root.Post (λ κs x s. x)
root-one κs a x y s t p q = p ∙ sym q

refusal-number-one : Coincide 1 refusal-number-kinds.ps refusal-number-kinds.r refusal-number.Post (λ κs x s. x)
refusal-number-one κs a x y s t p q = p ∙ sym q
