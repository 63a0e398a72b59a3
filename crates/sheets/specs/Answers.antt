-- What the checker and the writer answer, and what the writer leaves in the lent slice (01, 'Numbers a call may give back').
-- Definitions only.
use Rattle.std.specs.Prelude.{not, ◌&&◌, cond, List, [], ◌∷◌, ◌++◌, ℕ, suc, eqb, ltb, Float, length, Result, Ok, Err, ⊤}
use Rattle.laws.specs.Refusals.{first_of, each}
use Rattle.laws.specs.Front.{at_front}
use Rattle.numbers.specs.Numbers.{answered}
use Rattle.rules.specs.declared.Refusal.{Refusal}
use Rattle.rules.specs.Terms.{Terms}
use Rattle.rules.specs.Marking.{number, ahead, marks_of}
use Rattle.sheets.specs.declared.Fault.{Fault}
use Rattle.sheets.specs.declared.Fault.TheVariants.{Refused, Form, Differs, Wrong}
use Rattle.sheets.specs.Sheet.{sheet_of}
use Rattle.sheets.specs.Said.{Said, fault, sheet, said}

-- ---- 01's numbers and values of each answer. A value that 01 does not name is zero.

-- the number, the place or position, the right marks, the stated marks
abbrev pub Verdict : Type 0
Verdict = ℕ × ℕ × ℕ × ℕ

-- a number that comes with no values
abbrev pub plain : ℕ → Verdict
plain n = (n, 0, 0, 0)

abbrev pub faulted : Fault → Verdict
faulted (Refused why) = plain (number why)
faulted (Form at) = (9, at, 0, 0)
faulted Differs = plain 10
faulted (Wrong at right stated) = (11, at, right, stated)

abbrev pub fault_number : Fault → ℕ
fault_number why = (faulted why).0

abbrev pub checked : Result ⊤ Fault → Verdict
checked (Ok done) = plain 0
checked (Err why) = faulted why

-- the number, and the sheet's length
abbrev pub written : Result ℕ Refusal → ℕ × ℕ
written = answered number (λ n. n) 0

-- ---- the checker

-- the first position, counted from i, at which right and stated marks differ
unfoldable pub first_wrong : ℕ → List ℕ → List ℕ → Verdict
first_wrong i [] stated = plain 0
first_wrong i (r ∷ right) [] = plain 0
first_wrong i (r ∷ right) (m ∷ stated) = cond (eqb r m) (first_wrong (suc i) right stated) (11, i, r, m)

-- what is said, against the set and its right marks: 9, then 10, then 11
abbrev pub judged : ℕ → List ℕ → Said → Verdict
judged set right (fault p) = (9, p, 0, 0)
judged set right (sheet t ms) =
    first_of
    ((not (eqb (length ms) (length right) && eqb t set), plain 10) ∷ [])
    (first_wrong 0 right ms)

-- Checking: what marking refuses ahead of its room (5, 15, 4, 21, 3, 3), then 9, 10, 11.
unfoldable pub check_of : Terms → ℕ → List Float → List ℕ → Verdict
check_of terms set values s = first_of (each plain (ahead terms set values)) (judged set (marks_of terms set values) (said s))

-- ---- the writer

-- the sheet of a series
unfoldable pub series_sheet : Terms → ℕ → List Float → List ℕ
series_sheet terms set values = sheet_of set (marks_of terms set values)

-- Writing: the same, then 6. `room` is how many bytes the lent slice has.
unfoldable pub write_of : Terms → ℕ → List Float → ℕ → ℕ × ℕ
write_of terms set values room =
    first_of
    (each (λ n. (n, 0)) (ahead terms set values) ++ ((ltb room (length (series_sheet terms set values)), (6, 0)) ∷ []))
    (0, length (series_sheet terms set values))

-- the slice afterwards: the sheet at its front where nothing was refused, else as it came
unfoldable pub room_after : Terms → ℕ → List Float → List ℕ → List ℕ
room_after terms set values old = cond (eqb (write_of terms set values (length old)).0 0) (at_front (series_sheet terms set values) old) old
