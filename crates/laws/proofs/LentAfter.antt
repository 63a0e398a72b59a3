-- A lent slice after a call: as it came, zero throughout, or written at its front. Assumes nothing.
use mathlib.Core.Path.{◌≡◌, refl, sym, ap, ap₂, ◌∙◌}
use mathlib.Core.Bool.{Bool, true, false, cond}
use mathlib.Core.List.{List, ◌++◌}
use Prim.Native.Nat.{ℕ, ◌≤◌}
use native.Mathlib.Omega.{arith}
use borrow.Author.Tests.{ne_eqb}
use lib.Dec.{eqb}
use lib.ListN.{length, drop, replicate, length-append, length-drop}
use lib.Seq.{drop_at}
use Rattle.laws.specs.Front.{at_front, lent_after}

pub slice_kept : {A : Type 0} (nought : A) (written old : List A) (n : ℕ) → (n ≡ 0 → ⊥) → eqb n 7 ≡ false → old ≡ lent_after n nought written old
unfolding lent_after
slice_kept nought written old n some at_7 =
    sym
    (ap (λ (z : Bool). cond z (at_front written old) (cond (eqb n 7) (replicate (length old) nought) old)) (ne_eqb n 0 some)
    ∙ ap (λ (z : Bool). cond z (replicate (length old) nought) old) at_7)

pub slice-7 : {A : Type 0} (nought : A) (written old between : List A) {now : List A} → length between ≡ length old
    → now ≡ replicate (length between) nought → now ≡ lent_after 7 nought written old
unfolding lent_after
slice-7 nought written old between k e = e ∙ ap (λ (n : ℕ). replicate n nought) k

pub slice-done : {A : Type 0} (nought : A) (made written old : List A) {now : List A} → now ≡ at_front made old → made ≡ written
    → now ≡ lent_after 0 nought written old
unfolding lent_after
slice-done nought made written old e f = e ∙ ap (λ (l : List _). at_front l old) f

-- the same slice by another name of the number and of what was written
pub slice-same : {A : Type 0} (nought : A) (old : List A) {m n : ℕ} {made written now : List A} → now ≡ lent_after m nought made old → n ≡ m
    → made ≡ written → now ≡ lent_after n nought written old
slice-same nought old e same is = e ∙ ap₂ (λ (k : ℕ) (l : List _). lent_after k nought l old) (sym same) is

-- a front over one of the same length
pub front-over : {A : Type 0} (xs ys old : List A) → length ys ≡ length xs → at_front xs (at_front ys old) ≡ at_front xs old
front-over xs ys old k =
    ap (λ (l : List _). xs ++ l)
    (ap (λ (j : ℕ). drop j (at_front ys old)) (sym k) ∙ drop_at ys (drop (length ys) old) (length ys) refl ∙ ap (λ (j : ℕ). drop j old) k)

-- a front of the same length that was written before, for the call's own work, does not show at 0 and at 7
pub slice_over : {A : Type 0} (nought : A) (done : Bool) (made written ys old : List A) {m n : ℕ} {between now : List A}
    → now ≡ lent_after m nought made between → n ≡ m → m ≡ cond done 0 7 → made ≡ written → between ≡ at_front ys old
    → length ys ≡ length written → length ys ≤ length old → now ≡ lent_after n nought written old
unfolding lent_after
slice_over nought done made written ys old {m} {n} {between} {now} e same is w f k room =
    e
    ∙ ap₂ (λ (l b : List _). lent_after m nought l b) w f
    ∙ ap (λ (j : ℕ). lent_after j nought written (at_front ys old)) is
    ∙ by done
    ∙ ap (λ (j : ℕ). lent_after j nought written old) (sym (same ∙ is))
  where
    by : (b : Bool) → lent_after (cond b 0 7) nought written (at_front ys old) ≡ lent_after (cond b 0 7) nought written old
    by true = front-over written ys old k
    by false =
        let long : length (at_front ys old) ≡ length old = omega (arith, length-append ys (drop (length ys) old), length-drop (length ys) old) in
        ap (λ (j : ℕ). replicate j nought) long
