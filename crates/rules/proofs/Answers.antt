-- The refusal of a number; two answers of marking with one number are one. Assumes nothing.
use mathlib.Core.Path.{◌≡◌, refl, sym, ap, ◌∙◌}
use mathlib.Core.Bool.{cond}
use Prim.Native.Nat.{ℕ, ◌<◌}
use native.Mathlib.Omega.{arith}
use lib.Dec.{eqb}
use Rattle.std.specs.Prelude.{Result, ⊤}
use Rattle.numbers.proofs.Numbers.{Telling, numbered-one as one-number}
use Rattle.rules.specs.declared.Refusal.{Refusal}
use Rattle.rules.specs.declared.Refusal.TheVariants.{TooMany, Stops, SetTooLarge, WidthMode, NotFinite, TooShort}
use Rattle.rules.specs.Marking.{number, numbered}

-- the refusal of a number
abbrev pub refusal_of : ℕ → Refusal
refusal_of n = cond (eqb n 5) TooMany (cond (eqb n 15) Stops (cond (eqb n 4) SetTooLarge (cond (eqb n 21) WidthMode (cond (eqb n 3) NotFinite TooShort))))

pub refusal-again : (why : Refusal) → refusal_of (number why) ≡ why
refusal-again TooMany = refl
refusal-again Stops = refl
refusal-again SetTooLarge = refl
refusal-again WidthMode = refl
refusal-again NotFinite = refl
refusal-again TooShort = refl

-- a refusal's number is not 0
pub number-above : (why : Refusal) → 0 < number why
number-above TooMany = omega arith
number-above Stops = omega arith
number-above SetTooLarge = omega arith
number-above WidthMode = omega arith
number-above NotFinite = omega arith
number-above TooShort = omega arith

pub refusal-one : (a b : Refusal) → number a ≡ number b → a ≡ b
refusal-one a b e = sym (refusal-again a) ∙ ap refusal_of e ∙ refusal-again b

pub tells : Telling number
tells = record { not_done = λ why e. omega (arith, number-above why, e); one = refusal-one }

pub numbered-one : (a b : Result ⊤ Refusal) → numbered a ≡ numbered b → a ≡ b
numbered-one = one-number tells (λ a b. refl)
