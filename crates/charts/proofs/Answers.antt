-- Two answers with one number and the same values are one answer: so a promise on the number and the values fixes the answer.
-- Assumes nothing.
use mathlib.Core.Path.{◌≡◌, refl, sym, ap, ◌∙◌}
use mathlib.Core.Bool.{cond}
use Prim.Native.Nat.{ℕ}
use native.Mathlib.Omega.{arith}
use lib.Dec.{eqb}
use Rattle.std.specs.Prelude.{Result}
use Rattle.numbers.proofs.Numbers.{Telling, answered-one}
use Rattle.charts.specs.declared.Chart.{Chart}
use Rattle.charts.specs.declared.Refusal.{Refusal}
use Rattle.charts.specs.declared.Refusal.TheVariants as refusing
use Rattle.charts.specs.Records.{number, changed}

-- ---- refusals

-- no refusal's number is 0
pub number-some : (why : Refusal) → number why ≡ 0 → ⊥
number-some refusing.Size e = omega arith
number-some refusing.Length e = omega arith
number-some refusing.NotFinite e = omega arith
number-some refusing.Set e = omega arith
number-some refusing.Full e = omega arith
number-some refusing.TooShort e = omega arith
number-some refusing.Overflow e = omega arith
number-some refusing.TooFew e = omega arith
number-some refusing.Record e = omega arith
number-some refusing.Stops e = omega arith
number-some refusing.WidthMode e = omega arith

-- the refusal of a number
abbrev named : ℕ → Refusal
named n =
    cond (eqb n 1) refusing.Size
    (cond (eqb n 2) refusing.Length
    (cond (eqb n 3) refusing.NotFinite
    (cond (eqb n 4) refusing.Set
    (cond (eqb n 5) refusing.Full
    (cond (eqb n 6) refusing.TooShort
    (cond (eqb n 7) refusing.Overflow
    (cond (eqb n 8) refusing.TooFew
    (cond (eqb n 14) refusing.Record (cond (eqb n 15) refusing.Stops refusing.WidthMode)))))))))

named-number : (why : Refusal) → named (number why) ≡ why
named-number refusing.Size = refl
named-number refusing.Length = refl
named-number refusing.NotFinite = refl
named-number refusing.Set = refl
named-number refusing.Full = refl
named-number refusing.TooShort = refl
named-number refusing.Overflow = refl
named-number refusing.TooFew = refl
named-number refusing.Record = refl
named-number refusing.Stops = refl
named-number refusing.WidthMode = refl

pub number-one : (a b : Refusal) → number a ≡ number b → a ≡ b
number-one a b e = sym (named-number a) ∙ ap named e ∙ named-number b

pub tells : Telling number
tells = record { not_done = λ why e. number-some why (sym e); one = number-one }

-- ---- answers

pub changed-one : (before : Chart) (a b : Result Chart Refusal) → changed before a ≡ changed before b → a ≡ b
changed-one before = answered-one tells _ before (λ c d e. e)
