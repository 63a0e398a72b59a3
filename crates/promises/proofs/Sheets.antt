-- The writer and the checker of sheets. Assumes nothing.
use mathlib.Core.Path.{sym, ap₂, ◌∙◌}
use mathlib.Core.List.{List}
use Prim.Native.Nat.{ℕ}
use Rattle.std.specs.Prelude.{Result}
use Rattle.rules.specs.declared.Refusal.{Refusal}
use Rattle.sheets.proofs.Answers.{checked-one, written_one}
use Rattle.sheets.proofs.check.Reads as check
use Rattle.sheets.proofs.check.Kinds as check-kinds
use Rattle.sheets.proofs.write.Reads as write
use Rattle.sheets.proofs.write.Kinds as write-kinds
use Rattle.sheets.proofs.FaultNumbered.number.Reads as fault-number
use Rattle.sheets.proofs.FaultNumbered.number.Kinds as fault-number-kinds
use Rattle.sheets.proofs.FaultFromRefusal.from.Reads as from-refusal
use Rattle.sheets.proofs.FaultFromRefusal.from.Kinds as from-refusal-kinds
use Rattle.sheets.proofs.FaultFromGroupsFault.from.Reads as from-groups
use Rattle.sheets.proofs.FaultFromGroupsFault.from.Kinds as from-groups-kinds
use Rattle.promises.proofs.Coincide.{Coincide}

check-one : Coincide 3 check-kinds.ps check-kinds.r check.Post (λ κs x s. x)
check-one κs a x y s t p q = checked-one x y (p ∙ sym q)

write-one : Coincide 3 write-kinds.ps write-kinds.r write.Post {Seen = Result ℕ Refusal × List ℕ} (λ κs x s. (x, s.1.1.1.0.now))
write-one κs a x y s t p q =
    ap₂ (λ (u : Result ℕ Refusal) (v : List ℕ). (u, v)) (written_one x y (p.0 ∙ sym q.0)) (p.1 ∙ sym q.1)

fault-number-one : Coincide 1 fault-number-kinds.ps fault-number-kinds.r fault-number.Post (λ κs x s. x)
fault-number-one κs a x y s t p q = p ∙ sym q

from-refusal-one : Coincide 0 from-refusal-kinds.ps from-refusal-kinds.r from-refusal.Post (λ κs x s. x)
from-refusal-one κs a x y s t p q = p ∙ sym q

from-groups-one : Coincide 0 from-groups-kinds.ps from-groups-kinds.r from-groups.Post (λ κs x s. x)
from-groups-one κs a x y s t p q = p ∙ sym q
