-- Two answers with one number and one value are one answer: so a promise on the number and the value fixes the answer. Assumes nothing.
use mathlib.Core.Path.{◌≡◌, refl, ap}
use mathlib.Core.Bool.{Bool}
use Prim.Native.Nat.{ℕ}
use native.Mathlib.Omega.{arith}
use Rattle.std.specs.Prelude.{Result}
use Rattle.numbers.proofs.Numbers.{Telling, answered-one}
use Rattle.sets.specs.declared.RuleSet.{RuleSet}
use Rattle.sets.specs.declared.Refusal.{Refusal}
use Rattle.sets.specs.declared.Refusal.TheVariants.{TooLarge, Unknown}
use Rattle.sets.specs.Calls.{number, chosen, contained, counted}

-- no number of a refusal is 0
not_done : (why : Refusal) → 0 ≡ number why → ⊥
not_done TooLarge e = omega arith
not_done Unknown e = omega arith

pub refusal-one : (a b : Refusal) → number a ≡ number b → a ≡ b
refusal-one TooLarge TooLarge e = refl
refusal-one TooLarge Unknown e = absurd (omega arith)
refusal-one Unknown TooLarge e = absurd (omega arith)
refusal-one Unknown Unknown e = refl

tells : Telling number
tells = record { not_done = not_done; one = refusal-one }

pub chosen-one : (a b : Result RuleSet Refusal) → chosen a ≡ chosen b → a ≡ b
chosen-one = answered-one tells _ _ (λ s t e. ap (λ (m : ℕ). record { mask = m }) e)

pub contained-one : (a b : Result Bool Refusal) → contained a ≡ contained b → a ≡ b
contained-one = answered-one tells _ _ (λ s t e. e)

pub counted-one : (a b : Result ℕ Refusal) → counted a ≡ counted b → a ≡ b
counted-one = answered-one tells _ _ (λ s t e. e)
