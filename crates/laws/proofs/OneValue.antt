-- A slice that is filled with one value, one entry at a time, to its end. Assumes nothing.
use mathlib.Core.Path.{◌≡◌, sym, ap, ◌∙◌}
use mathlib.Core.List.{List, ◌++◌, append-nil}
use Prim.Native.Nat.{ℕ, ◌+◌, ◌≤◌, ◌<◌}
use native.Mathlib.Nat.{le_of_eq}
use native.Mathlib.Omega.{arith}
use lib.ListN.{length, set, replicate, length-replicate, get_or-replicate, drop_of_length-le}
use Rattle.laws.proofs.Filling.{Filling, filling-starts, filling-length, filling-goes-on, filling-ends}

module _ {A : Type 0} (z : A) (old : List A) where
  abbrev pub OneValue : List A → ℕ → Type 0
  OneValue now i = Filling (replicate (length old) z) old now i

  pub one-value-starts : OneValue old 0
  one-value-starts = filling-starts (replicate (length old) z) old (le_of_eq (length-replicate (length old) z))

  module _ (now : List A) (i : ℕ) (f : OneValue now i) where
    pub one-value-length : length now ≡ length old
    one-value-length = filling-length (replicate (length old) z) old now i f

    pub one-value-goes-on : i < length now → OneValue (set now i z) (i + 1)
    one-value-goes-on h =
        let within : i < length old = omega (arith, one-value-length) in
        filling-goes-on (replicate (length old) z) old now i f z z (omega (arith, length-replicate (length old) z))
        (sym (get_or-replicate (length old) i z z within))

    pub one-value-ends : length now ≤ i → now ≡ replicate (length old) z
    one-value-ends h =
        filling-ends (replicate (length old) z) old now i f (omega (arith, one-value-length, length-replicate (length old) z))
        ∙ ap (λ (l : List A). replicate (length old) z ++ l) (drop_of_length-le old (le_of_eq (sym (length-replicate (length old) z))))
        ∙ append-nil (replicate (length old) z)
