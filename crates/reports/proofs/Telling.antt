-- A text and a room for it: counted, and then written where the room holds it. Assumes nothing.
use mathlib.Core.Path.{◌≡◌, refl, ap, ◌∙◌}
use mathlib.Core.Bool.{Bool, true, false}
use mathlib.Core.List.{List}
use Prim.Native.Nat.{ℕ, suc, ◌+◌, ◌≤◌, ◌<◌}
use native.Mathlib.Nat.{zero-add}
use native.Mathlib.Omega.{arith}
use borrow.Author.Tests.{ltb-true, ltb-false}
use lib.Dec.{ltb}
use lib.ListN.{length}
use Rattle.laws.specs.Front.{at_front}
use Rattle.laws.proofs.Rooms.{Told, too_short, fits}
use Rattle.reports.specs.TextSteps.{puts, Put}
use Rattle.reports.proofs.Putting.{counted, counted-over, written}

module _ (text room : List ℕ) (n : ℕ) (after : List ℕ) (counts : Put false text 0 room n after) where
  count-over : length room < length text → (n ≡ suc (length room)) × (after ≡ room)
  count-over h =
      let e : ◌≡◌ {A = ℕ × List ℕ} (n, after) (suc (length room), room) = counts.is ∙ counted-over room text 0 (omega arith) (omega arith) in
      (ap (λ (r : ℕ × List ℕ). r.0) e, ap (λ (r : ℕ × List ℕ). r.1) e)

  count_fits : length text ≤ length room → (n ≡ length text) × (after ≡ room)
  count_fits h =
      let e : ◌≡◌ {A = ℕ × List ℕ} (n, after) (0 + length text, room) = counts.is ∙ counted room text 0 (omega arith) in
      (ap (λ (r : ℕ × List ℕ). r.0) e ∙ zero-add (length text), ap (λ (r : ℕ × List ℕ). r.1) e)

  pub told-short : length after < n → Told text room (6, 0) after
  told-short h = by (ltb (length room) (length text)) refl
    where
      by : (t : Bool) → ltb (length room) (length text) ≡ t → Told text room (6, 0) after
      by true e = let over = ltb-true (length room) (length text) e in rw (count-over over).1 (too_short text room over)
      by false e =
          let c = count_fits (ltb-false (length room) (length text) e) in
          absurd (omega (arith, c.0, ap length c.1, ltb-false (length room) (length text) e))

  pub told-whole : n ≤ length after → (m : ℕ) (new : List ℕ) → Put true text 0 after m new → Told text room (0, m) new
  told-whole h m new e = by (ltb (length room) (length text)) refl
    where
      by : (t : Bool) → ltb (length room) (length text) ≡ t → Told text room (0, m) new
      by true t =
          let c = count-over (ltb-true (length room) (length text) t) in
          absurd (omega (arith, c.0, ap length c.1))
      by false t =
          let room-holds = ltb-false (length room) (length text) t in
          let f : ◌≡◌ {A = ℕ × List ℕ} (m, new) (length text, at_front text room) =
          e.is ∙ ap (λ (l : List ℕ). puts true text (0, l)) (count_fits room-holds).1 ∙ written text room room-holds in
          fits text room room-holds m new (ap (λ (r : ℕ × List ℕ). r.0) f) (ap (λ (r : ℕ × List ℕ). r.1) f)
