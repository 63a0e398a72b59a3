-- A number by form and then by value: the three ways it goes, and what holds of all of them. Assumes nothing.
use mathlib.Core.Path.{◌≡◌, refl, ap, ◌∙◌}
use mathlib.Core.Bool.{Bool, true, false, cond}
use mathlib.Core.List.{List}
use Prim.Native.Nat.{ℕ}
use Rattle.std.specs.Prelude.{Result, Ok, Err}
use Rattle.groups.specs.declared.Read.{Read}
use Rattle.groups.specs.declared.Fault.{Fault}
use Rattle.groups.specs.Groups.{number_at, number_is, fault_is, onward, number}

module _ {A : Type 0} (form value : A) (ok : ℕ → Bool) (s : List ℕ) (at : ℕ) (rest : ℕ → ℕ → A) where
  pub no_number : (p : ℕ) → number_at s at ≡ fault_is p → number form value ok s at rest ≡ form
  no_number p e = ap (onward form value ok rest) e

  module _ (v next : ℕ) (e : number_at s at ≡ number_is v next) where
    pub out-of-place : ok v ≡ false → number form value ok s at rest ≡ value
    out-of-place h = ap (onward form value ok rest) e ∙ ap (λ (b : Bool). cond b (rest v next) value) h

    pub in_place : ok v ≡ true → number form value ok s at rest ≡ rest v next
    in_place h = ap (onward form value ok rest) e ∙ ap (λ (b : Bool). cond b (rest v next) value) h

  -- What holds of what both faults give, and of what the rest says behind a number in place, holds whatever the bytes are.
  pub by_number : (P : A → Type 0) → P form → P value
      → ((v next : ℕ) → number_at s at ≡ number_is v next → ok v ≡ true → P (rest v next)) → P (number form value ok s at rest)
  by_number P f w h = by (number_at s at) refl
    where
      by : (r : Result (Read ℕ) Fault) → number_at s at ≡ r → P (onward form value ok rest r)
      by (Err fault) e = f
      by (Ok read) e = held (ok read.value) refl
        where
          held : (b : Bool) → ok read.value ≡ b → P (cond b (rest read.value read.next) value)
          held true t = h read.value read.next e t
          held false t = w
