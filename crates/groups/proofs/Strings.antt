-- What the string of a number looks like, and what stands at the front of some bytes, group by group. Assumes nothing.
use Prim.Native.Nat.{ℕ, zero, suc, pred, ◌+◌, ◌*◌, ◌/◌, ◌%◌, ◌^◌, ◌≤◌, ◌<◌}
use native.Mathlib.Omega.{arith}
use mathlib.Core.Path.{◌≡◌, refl, sym, ap, ◌∙◌}
use mathlib.Core.List.{List, [], ◌∷◌}
use native.Mathlib.Nat.{pow-suc}
use lib.ListN.{length}
use borrow.Author.Tests.{lt-ltb, le-ltb, ne_eqb, eq-eqb}
use Rattle.laws.proofs.Digits.{by_digits}
use Rattle.groups.specs.Groups.{groups_in, groups, some, none, before, front}

-- Whatever holds of a number of one group, and of a longer one where it holds of the groups after the first, holds of every number.
pub by-groups : (P : ℕ → Type 0) → ((x : ℕ) → x < 128 → P x) → ((x : ℕ) → 128 ≤ x → P (x / 128) → P x) → (x : ℕ) → P x
by-groups = by_digits 128 (omega arith)

-- ---- the string of a number

in_one : (k x : ℕ) → x < 128 → groups_in k x ≡ x ∷ []
unfolding groups_in
in_one zero x h = refl
in_one (suc k) x h = rw (lt-ltb x 128 h, groups_in)

in-more : (k x : ℕ) → 128 ≤ x → groups_in (suc k) x ≡ (128 + x % 128) ∷ groups_in k (x / 128)
unfolding groups_in
in-more k x h = rw (le-ltb x 128 h, groups_in)

-- any first number that is at least x gives the same groups
enough : (x k : ℕ) → x ≤ k → groups_in k x ≡ groups x
unfolding groups
enough = by-groups (λ (x : ℕ). (k : ℕ) → x ≤ k → groups_in k x ≡ groups_in x x)
    (λ x h k l. in_one k x h ∙ sym (in_one x x h))
    (λ x h ih k l.
    let k-is : k ≡ suc (pred k) = omega arith in
    let x-is : x ≡ suc (pred x) = omega arith in
    let step : (j : ℕ) → x ≤ suc j → groups_in (suc j) x ≡ (128 + x % 128) ∷ groups_in (x / 128) (x / 128) =
    λ j g. in-more j x h ∙ ap (λ (w : List ℕ). (128 + x % 128) ∷ w) (ih j (omega arith)) in
    ap (λ (j : ℕ). groups_in j x) k-is ∙ step (pred k) (omega arith)
    ∙ sym (ap (λ (j : ℕ). groups_in j x) x-is ∙ step (pred x) (omega arith)))

pub groups-one : (x : ℕ) → x < 128 → groups x ≡ x ∷ []
unfolding groups
groups-one x h = in_one x x h

pub groups-more : (x : ℕ) → 128 ≤ x → groups x ≡ (128 + x % 128) ∷ groups (x / 128)
groups-more x h =
    let x-is : x ≡ suc (pred x) = omega arith in
    sym (enough x x (omega arith))
    ∙ ap (λ (j : ℕ). groups_in j x) x-is
    ∙ in-more (pred x) x h
    ∙ ap (λ (w : List ℕ). (128 + x % 128) ∷ w) (enough (x / 128) (pred x) (omega arith))

pub groups-some : (x : ℕ) → 0 < length (groups x)
groups-some = by-groups (λ (x : ℕ). 0 < length (groups x))
    (λ x h. rw (groups-one x h) (omega arith))
    (λ x h ih. rw (groups-more x h) (omega arith))

-- a number below 128 ^ (k + 1) has at most k + 1 of them
pub groups-most : (x k : ℕ) → x < 128 ^ suc k → length (groups x) ≤ suc k
groups-most = by-groups (λ (x : ℕ). (k : ℕ) → x < 128 ^ suc k → length (groups x) ≤ suc k)
    (λ x h k l. rw (groups-one x h) (omega arith))
    (λ x h ih. by x h ih)
  where
    by : (x : ℕ) → 128 ≤ x → ((k : ℕ) → x / 128 < 128 ^ suc k → length (groups (x / 128)) ≤ suc k)
        → (k : ℕ) → x < 128 ^ suc k → length (groups x) ≤ suc k
    by x h ih zero l = absurd (omega arith)
    by x h ih (suc k) l = rw (groups-more x h) (omega (arith, ih k (omega (arith, pow-suc 128 (suc k)))))

-- ---- what stands at the front

pub before-some : (low v n : ℕ) → (v ≡ 0 → ⊥) → before low (some v n) ≡ some (low + v * 128) (suc n)
before-some low v n h = simp (ne_eqb v 0 h)

pub before-zero : (low v n : ℕ) → v ≡ 0 → before low (some v n) ≡ none
before-zero low v n h = simp (eq-eqb v 0 h)

pub front-one : (b : ℕ) (bs : List ℕ) → b < 128 → front (b ∷ bs) ≡ some b 1
unfolding front
front-one b bs h = rw (lt-ltb b 128 h, front)

pub front-more : (b : ℕ) (bs : List ℕ) → 128 ≤ b → front (b ∷ bs) ≡ before (b % 128) (front bs)
unfolding front
front-more b bs h = rw (le-ltb b 128 h, front)
