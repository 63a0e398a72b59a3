-- What the file of pairs holds. Definitions only.
use Rattle.std.specs.Prelude.{List, ℕ, zero, suc, ◌≡◌, ◌+◌, ◌*◌, ◌^◌, ◌≤◌, ◌==◌, cond, get_or, take, drop, length, Float, Result, Ok, Err}
use Rattle.std.specs.Float.{binary64}
use Rattle.std.specs.Float.Ieee.{of_bits, to_bits}
use Rattle.root.specs.Root.{root_of}
use Rattle.root.specs.declared.NoRoot.{NoRoot}

-- the number that eight bytes hold, low byte first
abbrev pub byte_at : List ℕ → ℕ → ℕ
byte_at a i = get_or a i 0 * 2 ^ (8 * i)

abbrev pub little : List ℕ → ℕ
little a = byte_at a 0 + byte_at a 1 + byte_at a 2 + byte_at a 3 + byte_at a 4 + byte_at a 5 + byte_at a 6 + byte_at a 7

-- an answer: the bits of the root, or every bit set where it is refused
abbrev pub stored : Result Float NoRoot → ℕ
stored (Ok r) = to_bits binary64 r
stored (Err why) = 0xffffffffffffffff

-- the number at the front of some bytes, and what they hold of its root
abbrev pub number_of : List ℕ → ℕ
number_of rest = little (take 8 rest)

abbrev pub root_beside : List ℕ → ℕ
root_beside rest = little (take 8 (drop 8 rest))

-- 1 where the pair at the front differs from the root's own answer, else 0
abbrev pub differs : List ℕ → ℕ
differs rest = cond (stored (root_of (of_bits binary64 (number_of rest))) == root_beside rest) 0 1

-- how many of the first so many pairs of a file differ
unfoldable pub differing : List ℕ → ℕ → ℕ
differing file zero = 0
differing file (suc k) = differing file k + differs (drop (16 * k) file)

-- the pair at the front of the bytes that are left
abbrev pub Fronts : List ℕ → ℕ × ℕ → Type 0
Fronts rest pair = (16 ≤ length rest) × (pair.0 ≡ number_of rest) × (pair.1 ≡ root_beside rest)
