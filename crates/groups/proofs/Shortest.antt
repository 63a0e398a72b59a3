-- The string of a number is the shortest of all groups that say it (01's 'shortest form'). Assumes nothing.
use Prim.Native.Nat.{ℕ, suc, ◌+◌, ◌*◌, ◌/◌, ◌%◌, ◌≤◌, ◌<◌}
use native.Mathlib.Omega.{arith}
use mathlib.Core.Path.{◌≡◌, refl, subst}
use mathlib.Core.Bool.{Bool, true, false}
use mathlib.Core.List.{List, [], ◌∷◌}
use lib.ListN.{length}
use lib.Dec.{ltb}
use borrow.Author.Tests.{ltb-true, ltb-false}
use Rattle.groups.specs.Groups.{groups}
use Rattle.groups.proofs.Strings.{by-groups, groups-one, groups-more}

-- some groups, top bit set on all but the last, and the number that their sevens of bits say, low group first
pub data Groups : List ℕ → ℕ → Type 0 where
  last : {b : ℕ} → b < 128 → Groups (b ∷ []) b
  more : {b : ℕ} {bs : List ℕ} {v : ℕ} → b < 128 → Groups bs v → Groups ((128 + b) ∷ bs) (b + v * 128)

-- the string of a number is such groups
pub groups-say : (x : ℕ) → Groups (groups x) x
groups-say = by-groups (λ (x : ℕ). Groups (groups x) x)
    (λ x h. rw (groups-one x h) (last h))
    (λ x h ih.
    let value : x % 128 + x / 128 * 128 ≡ x = omega arith in
    rw (groups-more x h) (subst (λ (y : ℕ). Groups ((128 + x % 128) ∷ groups (x / 128)) y) value (more (omega arith) ih)))

-- and none that say the same number are fewer
pub shortest : {bs : List ℕ} {x : ℕ} → Groups bs x → length (groups x) ≤ length bs
shortest (last {b} h) = rw (groups-one b h) (omega arith)
shortest (more {b} {bs} {v} h g) = by (ltb x 128) refl (shortest g)
  where
    x : ℕ
    x = b + v * 128

    by : (t : Bool) → ltb x 128 ≡ t → length (groups v) ≤ length bs → length (groups x) ≤ suc (length bs)
    by true t l = rw (groups-one x (ltb-true x 128 t)) (omega arith)
    by false t l =
        let rest : x / 128 ≡ v = omega arith in
        rw (groups-more x (ltb-false x 128 t), rest) (omega arith)
