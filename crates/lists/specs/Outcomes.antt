-- What a case comes to, and what comparing what is ours with what is right may say. Definitions only.
use Rattle.std.specs.Prelude.{Result, Ok, Err, ⊤, ◌≡◌, Bool, true, false, List, ℕ, ◌<◌, ◌-◌, length, get_or, take, drop}
use Rattle.lists.specs.declared.outcome.Difference.{Difference}
use Rattle.lists.specs.declared.outcome.Difference.TheVariants.{Byte, Length, Refused, Taken, Overrun}
use Rattle.lists.specs.declared.outcome.Parting.{Parting}

-- the first place where they part, with what stands there
pub record Part (ours right : List ℕ) (p : Parting) : Type 0 where
  pub ours-there : p.ours ≡ get_or ours p.at 0
  pub right_there : p.right ≡ get_or right p.at 0
  pub differ : p.ours ≡ p.right → ⊥
  pub before : (k : ℕ) → k < p.at → get_or ours k 0 ≡ get_or right k 0

-- of two rows: that they are the same only where they are, and else where they part
abbrev pub Compared : List ℕ → List ℕ → Result ⊤ Difference → Type 0
Compared ours right (Ok same) = ours ≡ right
Compared ours right (Err (Byte p)) = Part ours right p
Compared ours right (Err (Length n)) = (n ≡ length ours) × (length ours ≡ length right → ⊥)
Compared ours right (Err (Refused number)) = ⊥
Compared ours right (Err Taken) = ⊥
Compared ours right (Err Overrun) = ⊥

-- that all is as it ought to be is said only if P
abbrev pub OnlyIf : Type 0 → Result ⊤ Difference → Type 0
OnlyIf P (Ok same) = P
OnlyIf P (Err difference) = Unit {0}

-- what stands in a list from one place to another
abbrev pub stretch : ℕ → ℕ → List ℕ → List ℕ
stretch from to list = take (to - from) (drop from list)

-- a case counts as differing by it
abbrev pub differs : Result ⊤ Difference → Bool
differs (Ok same) = false
differs (Err difference) = true
