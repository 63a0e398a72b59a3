-- A word has room for every answer, and each part of an answer can be read back from its bits. Assumes nothing.
use Prim.Native.Nat.{ℕ, ◌/◌, ◌%◌, ◌^◌, ◌<◌}
use native.Mathlib.Omega.{arith}
use mathlib.Core.Path.{◌≡◌}
use mathlib.Core.Bool.{Bool, true, false, cond}
use mathlib.Core.List.{List}
use lib.ListN.{length}
use Rattle.laws.specs.Refusals.{first_of}
use Rattle.rules.specs.Terms.{Terms}
use Rattle.sheets.specs.Answers.{Verdict, plain, check_of, write_of}
use Rattle.sheets.proofs.Places.{Bounded, alone, form, wrong, Short, number-only, bytes, check-bounded, write-short}
use Rattle.twin.specs.Bytes.{floats_of, not_eights}
use Rattle.twin.specs.Answers.{packed, check_number, packed_length, write_number}

pub packed-fits : {v : Verdict} → Bounded v → packed v < 2 ^ 64
packed-fits (alone h other) = omega arith
packed-fits (form h) = omega arith
packed-fits (wrong i right stated) = omega arith

pub length-fits : {a : ℕ × ℕ} → Short a → packed_length a < 2 ^ 64
length-fits (number-only h) = omega arith
length-fits (bytes h) = omega arith

-- so that of each call has room
pub check-fits : (terms : Terms) (set : ℕ) (bs sheet : List ℕ) → check_number terms set bs sheet < 2 ^ 64
unfolding check_number first_of
check-fits terms set bs sheet = by (not_eights bs)
  where
    by : (b : Bool) → packed (cond b (plain 2) (check_of terms set (floats_of bs) sheet)) < 2 ^ 64
    by true = omega arith
    by false = packed-fits (check-bounded terms set (floats_of bs) sheet)

pub write-fits : (terms : Terms) (set : ℕ) (bs room : List ℕ) → write_number terms set bs room < 2 ^ 64
unfolding write_number first_of
write-fits terms set bs room = by (not_eights bs)
  where
    by : (b : Bool) → packed_length (cond b (2, 0) (write_of terms set (floats_of bs) (length room))) < 2 ^ 64
    by true = omega arith
    by false = length-fits (write-short terms set (floats_of bs) (length room))

-- what a caller reads off the word of a verdict: the number; at 9 the place; at 11 the position, the right marks, the stated marks
pub record Read (v : Verdict) (w : ℕ) : Type 0 where
  pub number : w % 256 ≡ v.0
  pub place : v.0 ≡ 9 → w / 256 ≡ v.1
  pub position : v.0 ≡ 11 → w / 256 % 65536 ≡ v.1
  pub right : v.0 ≡ 11 → w / 16777216 % 65536 ≡ v.2
  pub stated : v.0 ≡ 11 → w / 1099511627776 % 65536 ≡ v.3

pub packed-read : {v : Verdict} → Bounded v → Read v (packed v)
packed-read (alone h other) = record {
  number = omega arith;
  place = λ e. omega arith;
  position = λ e. absurd (other e);
  right = λ e. absurd (other e);
  stated = λ e. absurd (other e);
}
packed-read (form h) = record {
  number = omega arith;
  place = λ e. omega arith;
  position = λ e. absurd (omega arith);
  right = λ e. absurd (omega arith);
  stated = λ e. absurd (omega arith);
}
packed-read (wrong i right stated) = record {
  number = omega arith;
  place = λ e. absurd (omega arith);
  position = λ e. omega arith;
  right = λ e. omega arith;
  stated = λ e. omega arith;
}

-- off that of a writer's answer: the number, and the sheet's length
pub length-read : {a : ℕ × ℕ} → Short a → (packed_length a % 256 ≡ a.0) × (packed_length a / 256 ≡ a.1)
length-read (number-only h) = (omega arith, omega arith)
length-read (bytes h) = (omega arith, omega arith)
