-- The root. Assumes nothing.
use mathlib.Core.Path.{sym, ◌∙◌}
use Rattle.root.proofs.root.Reads as root
use Rattle.root.proofs.root.Kinds as root-kinds
use Rattle.root.proofs.NoRootNumbered.number.Reads as number
use Rattle.root.proofs.NoRootNumbered.number.Kinds as number-kinds
use Rattle.promises.proofs.Coincide.{Coincide}

root-one : Coincide 0 root-kinds.ps root-kinds.r root.Post (λ κs x s. x)
root-one κs a x y s t p q = p.1 ∙ sym q.1

number-one : Coincide 1 number-kinds.ps number-kinds.r number.Post (λ κs x s. x)
number-one κs a x y s t p q = p ∙ sym q
