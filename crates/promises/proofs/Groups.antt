-- The calls of groups. Assumes nothing.
use mathlib.Core.Path.{sym, ap₂, ◌∙◌}
use mathlib.Core.List.{List}
use Prim.Native.Nat.{ℕ}
use Rattle.std.specs.Prelude.{Result}
use Rattle.groups.specs.declared.TooShort.{TooShort}
use Rattle.groups.proofs.Answers.{written_one}
use Rattle.groups.proofs.read_number.Reads as read
use Rattle.groups.proofs.read_number.Kinds as read-kinds
use Rattle.groups.proofs.write_number.Reads as write
use Rattle.groups.proofs.write_number.Kinds as write-kinds
use Rattle.groups.proofs.size.Reads as size
use Rattle.groups.proofs.size.Kinds as size-kinds
use Rattle.groups.proofs.FaultNumbered.number.Reads as fault-number
use Rattle.groups.proofs.FaultNumbered.number.Kinds as fault-number-kinds
use Rattle.groups.proofs.TooShortNumbered.number.Reads as too-short-number
use Rattle.groups.proofs.TooShortNumbered.number.Kinds as too-short-number-kinds
use Rattle.promises.proofs.Coincide.{Coincide}

read_number : Coincide 1 read-kinds.ps read-kinds.r read.Post (λ κs x s. x)
read_number κs a x y s t p q = p ∙ sym q

write-number : Coincide 1 write-kinds.ps write-kinds.r write.Post {Seen = Result ℕ TooShort × List ℕ} (λ κs x s. (x, s.0.now))
write-number κs a x y s t p q = ap₂ (λ (u : Result ℕ TooShort) (v : List ℕ). (u, v)) (written_one x y (p.0 ∙ sym q.0)) (p.1 ∙ sym q.1)

size-one : Coincide 0 size-kinds.ps size-kinds.r size.Post (λ κs x s. x)
size-one κs a x y s t p q = p.0 ∙ sym q.0

fault-number-one : Coincide 1 fault-number-kinds.ps fault-number-kinds.r fault-number.Post (λ κs x s. x)
fault-number-one κs a x y s t p q = p ∙ sym q

too-short-number-one : Coincide 1 too-short-number-kinds.ps too-short-number-kinds.r too-short-number.Post (λ κs x s. x)
too-short-number-one κs a x y s t p q = p ∙ sym q
