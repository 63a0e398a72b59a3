-- Two answers with one number and the same values are one answer. Assumes nothing.
use mathlib.Core.Path.{◌≡◌, refl}
use Prim.Native.Nat.{ℕ}
use native.Mathlib.Omega.{arith}
use Rattle.std.specs.Prelude.{Result}
use Rattle.numbers.proofs.Numbers.{Telling, answered-one}
use Rattle.groups.specs.declared.TooShort.{TooShort}
use Rattle.groups.specs.Groups.{written}

short : (a b : TooShort) → a ≡ b
short a b = refl

tells : Telling {E = TooShort} (λ _. 6)
tells = record { not_done = λ why e. omega arith; one = λ a b e. short a b }

pub written_one : (a b : Result ℕ TooShort) → written a ≡ written b → a ≡ b
written_one = answered-one tells _ _ (λ m n e. e)
