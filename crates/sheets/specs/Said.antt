-- What any bytes say: a form fault and its place, or a rule set and the marks of every point (01, 'The mark sheet', second paragraph).
-- Definitions only.
use Rattle.std.specs.Prelude.{Bool, not, ◌&&◌, cond, List, ◌∷◌, ◌++◌, ℕ, zero, suc, ◌-◌, eqb, ltb, leb, length, replicate}
use Rattle.std.specs.Int.Bits.{bit_and}
use Rattle.groups.specs.Groups as groups
use Rattle.sets.specs.Sets.{largest}
use Rattle.rules.specs.Marking.{most}

pub data Said : Type 0 where
  fault : ℕ → Said
  sheet : ℕ → List ℕ → Said

-- a number by form and then by value: either fault is at its first byte
abbrev pub number : (ℕ → Bool) → List ℕ → ℕ → (ℕ → ℕ → Said) → Said
number ok s at rest = groups.number (fault at) (fault at) ok s at rest

-- ---- the marked points

-- marks that are a nonzero part of the set
abbrev pub is_part : ℕ → ℕ → Bool
is_part set m = not (eqb m 0) && eqb (bit_and m set) m

-- a point with the marks m, `skip` unmarked ones before it, in front of what the rest says
abbrev pub placed : ℕ → ℕ → Said → Said
placed skip m (fault p) = fault p
placed skip m (sheet set ms) = sheet set (replicate skip 0 ++ (m ∷ ms))

-- From a place on: k marked points among the `left` points that are left, and then the end. A skip must not reach past the last point.
-- Bytes left over are a fault at the first of them.
unfoldable pub entries : List ℕ → ℕ → ℕ → ℕ → ℕ → Said
entries s set zero left at = cond (ltb at (length s)) (fault at) (sheet set (replicate left 0))
entries s set (suc k) left at =
    number (λ skip. ltb skip left) s at (λ skip p.
    number (is_part set) s p (λ m q. placed skip m (entries s set k (left - suc skip) q)))

-- ---- the whole

-- From a place on: at most `most` points, a set of at most `top`, no more marked points than points, and these.
unfoldable pub said_from : ℕ → ℕ → List ℕ → ℕ → Said
said_from most top s at =
    number (λ n. leb n most) s at (λ n p.
    number (λ set. leb set top) s p (λ set q.
    number (λ k. leb k n) s q (λ k r. entries s set k n r)))

-- 01's bounds: no more points than a series may have values, and a number that is a set's
abbrev pub said : List ℕ → Said
said s = said_from most largest s 0
