-- Two answers with the same numbers are one answer: so a promise on the numbers fixes the answer. Assumes nothing.
use mathlib.Core.Path.{◌≡◌, refl, sym, ap, ◌∙◌}
use mathlib.Core.Bool.{cond}
use Prim.Native.Nat.{ℕ}
use lib.Dec.{eqb}
use Rattle.std.specs.Prelude.{Result, Ok, Err, ⊤}
use Rattle.numbers.proofs.Numbers.{answered-one}
use Rattle.rules.specs.declared.Refusal.{Refusal}
use Rattle.rules.specs.declared.Refusal.TheVariants.{TooMany, Stops, SetTooLarge, WidthMode, NotFinite, TooShort}
use Rattle.rules.proofs.Answers.{refusal_of, tells}
use Rattle.sheets.specs.declared.Fault.{Fault}
use Rattle.sheets.specs.declared.Fault.TheVariants.{Refused, Form, Differs, Wrong}
use Rattle.sheets.specs.Answers.{Verdict, checked, written}

-- the answer that has these numbers
abbrev checked_back : Verdict → Result ⊤ Fault
checked_back v =
    cond (eqb v.0 0) (Ok tt)
    (cond (eqb v.0 9) (Err (Form v.1))
    (cond (eqb v.0 10) (Err Differs)
    (cond (eqb v.0 11) (Err (Wrong v.1 v.2 v.3)) (Err (Refused (refusal_of v.0))))))

checked-back : (a : Result ⊤ Fault) → checked_back (checked a) ≡ a
checked-back (Ok done) = refl
checked-back (Err (Refused why)) = by why
  where
    by : (why : Refusal) → checked_back (checked (Err (Refused why))) ≡ Err (Refused why)
    by TooMany = refl
    by Stops = refl
    by SetTooLarge = refl
    by WidthMode = refl
    by NotFinite = refl
    by TooShort = refl
checked-back (Err (Form at)) = refl
checked-back (Err Differs) = refl
checked-back (Err (Wrong at right stated)) = refl

pub checked-one : (a b : Result ⊤ Fault) → checked a ≡ checked b → a ≡ b
checked-one a b e = sym (checked-back a) ∙ ap checked_back e ∙ checked-back b

pub written_one : (a b : Result ℕ Refusal) → written a ≡ written b → a ≡ b
written_one = answered-one tells _ _ (λ m n e. e)
