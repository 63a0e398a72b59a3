-- What the parts of the code find: the numbers of their answers, and what is refused before a value is read. Nothing here has to be
-- believed: the proofs tie it to Bytes.antt and Answers.antt. Definitions only.
use Rattle.std.specs.Prelude.{cond, List, [], ◌∷◌, ℕ, ◌/◌, eqb, ltb, Float, length, Result, Ok, Err, ⊤}
use Rattle.laws.specs.Refusals.{first_of}
use Rattle.laws.specs.Front.{at_front}
use Rattle.numbers.specs.Numbers as numbers
use Rattle.sets.specs.Sets.{too_large}
use Rattle.rules.specs.Marking as rules
use Rattle.rules.specs.Marking.{most}
use Rattle.sheets.specs.declared.Fault.TheVariants.{Refused}
use Rattle.sheets.specs.Answers.{Verdict, plain, faulted}
use Rattle.twin.specs.declared.Refusal.{Refusal}
use Rattle.twin.specs.declared.Refusal.TheVariants.{Ragged as BytesRagged, Series}
use Rattle.twin.specs.declared.Fault.{Fault}
use Rattle.twin.specs.declared.Fault.TheVariants.{Ragged, Sheet}
use Rattle.twin.specs.Bytes.{floats_of, not_eights}

-- ---- 01's numbers and values of each answer

abbrev pub number : Refusal → ℕ
number BytesRagged = 2
number (Series why) = rules.number why

abbrev pub numbered : Result ⊤ Refusal → ℕ
numbered = numbers.numbered number

-- the number, and the sheet's length
abbrev pub written : Result ℕ Refusal → ℕ × ℕ
written = numbers.answered number (λ n. n) 0

abbrev pub as_fault : Refusal → Fault
as_fault BytesRagged = Ragged
as_fault (Series why) = Sheet (Refused why)

abbrev pub told_by : Fault → Verdict
told_by Ragged = plain 2
told_by (Sheet fault) = faulted fault

abbrev pub checked : Result ⊤ Fault → Verdict
checked (Ok done) = plain 0
checked (Err fault) = told_by fault

-- ---- before the values are read

-- 2, 5, 4
unfoldable pub early : List ℕ → ℕ → ℕ
early bs set = first_of ((not_eights bs, 2) ∷ (ltb most (length bs / 8), 5) ∷ (too_large set, 4) ∷ []) 0

-- the values, at the front of a room
unfoldable pub values_after : List ℕ → ℕ → List Float → List Float
values_after bs set old = cond (eqb (early bs set) 0) (at_front (floats_of bs) old) old
