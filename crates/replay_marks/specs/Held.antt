-- What a list has behind '**answer:**' (oracle/FORMAT.md, 'A marks case' and 'A marks case with stops'), and what of ours is as it ought to be.
-- Definitions only.
use Rattle.std.specs.Prelude.{◌≡◌, Bool, true, cond, ◌||◌, List, [], ◌∷◌, ◌++◌, ℕ, eqb, take}
use Rattle.lists.specs.Ours.{in_groups, all_are}

-- "the marks of each value"; with stops behind 01's number
abbrev pub answer_bytes : Bool → ℕ → List ℕ → List ℕ
answer_bytes stopped number marks = cond stopped ((number ∷ []) ++ marks) marks

-- the marks are made by no refusal
abbrev pub written : ℕ → ℕ → ℕ
written number n = cond (eqb number 0) n 0

-- without stops 01's number is 0; the stored answer is ours, and behind the marks every entry is as it was
pub record Held (stored : List ℕ) (stopped : Bool) (number n : ℕ) (marks : List ℕ) : Type 0 where
  pub taken : (stopped || eqb number 0) ≡ true
  pub answer : in_groups (answer_bytes stopped number (take (written number n) marks)) ≡ stored
  pub rest : all_are marks (written number n) 0xffff ≡ true

-- so, whichever number is ours
pub record SomeHeld (stored : List ℕ) (stopped : Bool) (n : ℕ) (marks : List ℕ) : Type 0 where
  pub number : ℕ
  pub held : Held stored stopped number n marks
