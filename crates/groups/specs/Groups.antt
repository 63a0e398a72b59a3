-- Numbers in groups of seven bits: low group first, top bit set on all but the last group, shortest form
-- (01, 'The mark sheet', first sentence). Definitions only.
use Rattle.std.specs.Prelude.{ℕ, zero, suc, ◌+◌, ◌*◌, ◌/◌, ◌%◌, ◌^◌, Bool, true, false, cond, List, [], ◌∷◌, drop, ltb, eqb}
use Rattle.std.specs.Prelude.{Result, Ok, Err}
use Rattle.numbers.specs.Numbers.{answered}
use Rattle.groups.specs.declared.Read.{Read}
use Rattle.groups.specs.declared.Fault.{Fault}
use Rattle.groups.specs.declared.TooShort.{TooShort}

-- ---- writing

-- The groups of x. The first number only makes the recursion end: it is at least x, so a group with more to come never meets zero.
unfoldable pub groups_in : ℕ → ℕ → List ℕ
groups_in zero x = x ∷ []
groups_in (suc k) x = elim (ltb x 128) [ true ↦ x ∷ [] | false ↦ (128 + x % 128) ∷ groups_in k (x / 128) ]

-- the one string of x
unfoldable pub groups : ℕ → List ℕ
unfolding groups_in
groups x = groups_in x x

-- 01's number, and how many bytes were taken
abbrev pub written : Result ℕ TooShort → ℕ × ℕ
written = answered (λ _. 6) (λ n. n) 0

-- ---- reading

-- 01's number, the value, and the place: past the number, or of its first byte where it is at fault
abbrev pub found : Result (Read ℕ) Fault → ℕ × ℕ × ℕ
found (Ok number) = (0, number.value, number.next)
found (Err fault) = (9, 0, fault.at)

-- a number's value and the place past it
abbrev pub number_is : ℕ → ℕ → Result (Read ℕ) Fault
number_is v next = Ok (record { value = v; next = next })

-- no number: the place of the first byte
abbrev pub fault_is : ℕ → Result (Read ℕ) Fault
fault_is at = Err (record { at = at })

-- What stands at the front of some bytes: a number of any size and how many bytes it takes, or none.
pub data Front : Type 0 where
  some : ℕ → ℕ → Front
  none : Front

-- A group with more to come, in front of what follows it. Where that is zero, the number is longer than shortest.
abbrev pub before : ℕ → Front → Front
before low none = none
before low (some v n) = cond (eqb v 0) none (some (low + v * 128) (suc n))

-- the bytes end inside the number or before it; a last group; a group with more to come
unfoldable pub front : List ℕ → Front
front [] = none
front (b ∷ bs) = elim (ltb b 128) [ true ↦ some b 1 | false ↦ before (b % 128) (front bs) ]

-- What is read of it at a place: the value and the place past it. A fault is at the number's first byte, and a number over 64 bits is one.
abbrev pub read_as : ℕ → Front → Result (Read ℕ) Fault
read_as at none = fault_is at
read_as at (some v n) = cond (ltb v (2 ^ 64)) (number_is v (at + n)) (fault_is at)

-- the number at a place of the bytes
unfoldable pub number_at : List ℕ → ℕ → Result (Read ℕ) Fault
unfolding front
number_at s at = read_as at (front (drop at s))

-- ---- a number "by form then value" (01, 'The report program'; 'The mark sheet', second paragraph), in front of what the rest says

module _ {A : Type 0} where
  -- Where a number was read whose value is in place, what the rest says, told the value and the place past it; else what a fault of its
  -- form gives, or what a value out of place gives.
  abbrev pub onward : A → A → (ℕ → Bool) → (ℕ → ℕ → A) → Result (Read ℕ) Fault → A
  onward form value ok rest (Err fault) = form
  onward form value ok rest (Ok number) = cond (ok number.value) (rest number.value number.next) value

  abbrev pub number : A → A → (ℕ → Bool) → List ℕ → ℕ → (ℕ → ℕ → A) → A
  number form value ok s at rest = onward form value ok rest (number_at s at)
