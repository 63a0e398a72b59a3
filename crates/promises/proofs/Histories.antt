-- Lanes. Assumes nothing.
use mathlib.Core.Path.{sym, ◌∙◌}
use Prim.Native.Nat.{ℕ}
use Rattle.std.specs.Prelude.{Result}
use Rattle.rules.specs.declared.Refusal.{Refusal}
use Rattle.histories.specs.declared.Lane.{Lane}
use Rattle.histories.proofs.Answers.{taken-one}
use Rattle.histories.proofs.Lane.start.Reads as start
use Rattle.histories.proofs.Lane.start.Kinds as start-kinds
use Rattle.histories.proofs.Lane.take.Reads as take
use Rattle.histories.proofs.Lane.take.Kinds as take-kinds
use Rattle.promises.proofs.Coincide.{Coincide}

start-one : Coincide 0 start-kinds.ps start-kinds.r start.Post (λ κs x s. x)
start-one κs a x y s t p q = p ∙ sym q

take-one : Coincide 1 take-kinds.ps take-kinds.r take.Post {Seen = Result ℕ Refusal × Lane} (λ κs x s. (x, s.0.now))
take-one κs a x y s t p q = taken-one x y s.0.now t.0.now (p ∙ sym q)
