-- Two answers with one number and the same values are one answer: so a promise on the number and the values fixes the answer.
-- Assumes nothing.
use Rattle.std.proofs.Common.{◌≡◌, ℕ, cond, eqb, sym, refl, ap, ◌∙◌, arith}
use Rattle.std.specs.Prelude.{Result}
use lib.Ieee.{Float}
use Rattle.numbers.proofs.Numbers.{Telling, answered-one}
use Rattle.attributes.specs.declared.Refusal.{Refusal}
use Rattle.attributes.specs.declared.Refusal.TheVariants as refusing
use Rattle.attributes.specs.declared.Chart.{Chart}
use Rattle.attributes.specs.Records.{number, changed}
use Rattle.attributes.specs.Evaluating.{evaluated}

-- ---- refusals

-- no refusal's number is 0
pub number-some : (why : Refusal) → number why ≡ 0 → ⊥
number-some refusing.Full e = omega arith
number-some refusing.TooShort e = omega arith
number-some refusing.Overflow e = omega arith
number-some refusing.TooFew e = omega arith
number-some refusing.Record e = omega arith
number-some refusing.Count e = omega arith
number-some refusing.NoSize e = omega arith
number-some refusing.Damaged e = omega arith
number-some refusing.Units e = omega arith
number-some refusing.Centre e = omega arith

-- the refusal of a number
abbrev named : ℕ → Refusal
named n =
    cond (eqb n 5) refusing.Full
    (cond (eqb n 6) refusing.TooShort
    (cond (eqb n 7) refusing.Overflow
    (cond (eqb n 8) refusing.TooFew
    (cond (eqb n 14) refusing.Record
    (cond (eqb n 16) refusing.Count
    (cond (eqb n 17) refusing.NoSize
    (cond (eqb n 18) refusing.Damaged (cond (eqb n 19) refusing.Units refusing.Centre))))))))

named-number : (why : Refusal) → named (number why) ≡ why
named-number refusing.Full = refl
named-number refusing.TooShort = refl
named-number refusing.Overflow = refl
named-number refusing.TooFew = refl
named-number refusing.Record = refl
named-number refusing.Count = refl
named-number refusing.NoSize = refl
named-number refusing.Damaged = refl
named-number refusing.Units = refl
named-number refusing.Centre = refl

pub number-one : (a b : Refusal) → number a ≡ number b → a ≡ b
number-one a b e = sym (named-number a) ∙ ap named e ∙ named-number b

-- ---- answers

tells : Telling number
tells = record { not_done = λ why e. number-some why (sym e); one = number-one }

pub changed-one : {S : Type 0} (before : Chart S) (a b : Result (Chart S) Refusal) → changed before a ≡ changed before b → a ≡ b
changed-one before = answered-one tells _ _ (λ c d e. e)

pub evaluated-one : (a b : Result Float Refusal) → evaluated a ≡ evaluated b → a ≡ b
evaluated-one = answered-one tells _ _ (λ x y e. e)
