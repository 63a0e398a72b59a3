-- The number that 01 has for an answer ('Numbers a call may give back'). Definitions only.
use Rattle.std.specs.Prelude.{ℕ, Result, Ok, Err}

module _ {A E : Type 0} (number : E → ℕ) where
  -- "0: done", and else the number of the refusal
  abbrev pub numbered : Result A E → ℕ
  numbered (Ok a) = 0
  numbered (Err why) = number why

  -- the number and the value that go with an answer; a refusal's value is the one that says nothing
  abbrev pub answered : {B : Type 0} → (A → B) → B → Result A E → ℕ × B
  answered value nothing (Ok a) = (0, value a)
  answered value nothing (Err why) = (number why, nothing)
