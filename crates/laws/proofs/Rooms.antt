-- What is written into a lent slice, and the answer: the slice is too short for it, or holds it at its front. Assumes nothing.
use mathlib.Core.Path.{◌≡◌, refl, sym, ap, ◌∙◌}
use mathlib.Core.Bool.{Bool, true, false, cond}
use mathlib.Core.List.{List}
use Prim.Native.Nat.{ℕ, ◌≤◌, ◌<◌}
use native.Mathlib.Omega.{arith}
use borrow.Author.Tests.{le-leb, lt-leb, leb-true}
use lib.Dec.{leb}
use lib.ListN.{length}
use Rattle.laws.specs.Front.{at_front, at_front_if_room, room_for}

module _ {A : Type 0} where
  -- the answer, and the slice afterwards
  abbrev pub Told : List A → List A → ℕ × ℕ → List A → Type 0
  Told xs room answer after = (answer ≡ room_for xs (length room)) × (after ≡ at_front_if_room xs room)

  module _ (xs room : List A) where
    pub too_short : length room < length xs → Told xs room (6, 0) room
    too_short h = (simp (lt-leb (length xs) (length room) h), simp (lt-leb (length xs) (length room) h))

    pub fits : length xs ≤ length room → (n : ℕ) (after : List A) → n ≡ length xs → after ≡ at_front xs room → Told xs room (0, n) after
    fits h n after e f = (
      ap (λ (k : ℕ). (0, k)) e ∙ sym (ap (λ (b : Bool). cond b (0, length xs) (6, 0)) (le-leb (length xs) (length room) h)),
      f ∙ sym (ap (λ (b : Bool). cond b (at_front xs room) room) (le-leb (length xs) (length room) h)),
    )

  -- what is told of a list is told of one that equals it
  module _ (xs ys room : List A) (is : xs ≡ ys) where
    pub told-as : {answer : ℕ × ℕ} {after : List A} → Told xs room answer after → Told ys room answer after
    told-as e = (
      e.0 ∙ ap (λ (x : List A). room_for x (length room)) is,
      e.1 ∙ ap (λ (x : List A). at_front_if_room x room) is,
    )

  -- what was written lies within the slice
  pub within : (xs : List A) (room n : ℕ) → ◌≡◌ {A = ℕ × ℕ} (0, n) (room_for xs room) → n ≤ room
  within xs room n = by (leb (length xs) room) refl
    where
      by : (b : Bool) → leb (length xs) room ≡ b → ◌≡◌ {A = ℕ × ℕ} (0, n) (cond b (0, length xs) (6, 0)) → n ≤ room
      by true h e = let z : n ≡ length xs = ap (λ (p : ℕ × ℕ). p.1) e in omega (arith, leb-true (length xs) room h)
      by false h e = absurd (let z : ◌≡◌ {A = ℕ} 0 6 = ap (λ (p : ℕ × ℕ). p.0) e in omega arith)
