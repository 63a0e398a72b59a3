-- Reading a row into a slice: what was read so far stands at its front, and the rest is read from where that ends. Assumes nothing.
use mathlib.Core.Path.{◌≡◌, sym, ap, ap₂, ◌∙◌}
use mathlib.Core.List.{List, [], ◌∷◌}
use Prim.Native.Nat.{ℕ, zero, suc, ◌+◌, ◌-◌, ◌≤◌, ◌<◌}
use native.Mathlib.Numerals.{add-one}
use native.Mathlib.Omega.{arith}
use lib.ListN.{length, get_or, drop, set, length-drop}
use lib.Seq.{drop-cons}
use Rattle.laws.specs.Front.{at_front}
use Rattle.laws.proofs.Filling.{Filling, filling-starts, filling-goes-on, filling-ends}
use Rattle.std.specs.Prelude.{Result, Ok, Err}
use Rattle.groups.specs.declared.Read.{Read}
use Rattle.lists.specs.declared.Fault.{Fault}
use Rattle.lists.specs.Found.{read}
use Rattle.lists.specs.Reading.{following, row_from}

module _ {A : Type 0} (one : ℕ → Result (Read A) Fault) where
  -- what is found of those left, of which there are none, or where the next stands
  module _ (n i at : ℕ) where
    pub row-none : n ≤ i → row_from one (n - i) at ≡ ([], Ok at)
    unfolding row_from
    row-none h = let none : n - i ≡ 0 = omega arith in ap (λ (m : ℕ). row_from one m at) none

    pub row_next : i < n → (x : Result (Read A) Fault) → one at ≡ x → row_from one (n - i) at ≡ following x (row_from one (n - (i + 1)))
    unfolding row_from
    row_next h x e =
        let some : n - i ≡ suc (n - (i + 1)) = omega arith in
        ap (λ (m : ℕ). row_from one m at) some ∙ ap (λ (y : Result (Read A) Fault). following y (row_from one (n - (i + 1)))) e

  row-length : (n at : ℕ) → length (row_from one n at).0 ≤ n
  unfolding row_from
  row-length zero at = omega arith
  row-length (suc n) at = by (one at) (row-length n)
    where
      by : (x : Result (Read A) Fault) → ((next : ℕ) → length (row_from one n next).0 ≤ n) → length (following x (row_from one n)).0 ≤ suc n
      by (Ok found) shorter = omega (arith, shorter found.next)
      by (Err fault) shorter = omega arith

  -- the slice was `was`, and the row is read from `from` on
  module _ (was : List A) (from : ℕ) where
    abbrev row : List A × Result ℕ Fault
    row = row_from one (length was) from

    -- i were read, the next is at `at`, and the slice is `now`
    pub record Reads (now : List A) (at i : ℕ) : Type 0 where
      pub stand : Filling row.0 was now i
      pub rest : row_from one (length was - i) at ≡ (drop i row.0, row.1)

    pub reads-starts : Reads was from 0
    reads-starts = record {
      stand = filling-starts row.0 was (row-length (length was) from);
      rest = ap (λ (n : ℕ). row_from one n from) (let all : length was - 0 ≡ length was = omega arith in all);
    }

    -- reading ended so, and left the slice so
    abbrev Ended : Result ℕ Fault → List A → Type 0
    Ended end now = (end ≡ row.1) × (now ≡ at_front row.0 was)

module _ {A : Type 0} {one : ℕ → Result (Read A) Fault} {was : List A} {from : ℕ} {now : List A} {at i : ℕ} (r : Reads one was from now at i) where
  no_more : (end : Result ℕ Fault) → row_from one (length was - i) at ≡ ([], end) → Ended one was from end now
  no_more end e =
      let all = row one was from in
      let same : ◌≡◌ {A = List A × Result ℕ Fault} ([], end) (drop i all.0, all.1) = sym e ∙ r.rest in
      let none : length (drop i all.0) ≡ 0 = sym (ap (λ p. length p.0) same) in
      (ap (λ p. p.1) same, filling-ends all.0 was now i r.stand (omega (arith, length-drop i all.0)))

  pub reads-ends : length was ≤ i → Ended one was from (Ok at) now
  reads-ends h = no_more (Ok at) (row-none one (length was) i at h)

  module _ (h : i < length was) where
    next-is : (x : Result (Read A) Fault) → one at ≡ x → row_from one (length was - i) at ≡ following x (row_from one (length was - (i + 1)))
    next-is x e = row_next one (length was) i at h x e

    pub reads-stops : {f : Fault} → one at ≡ Err f → Ended one was from (Err f) now
    reads-stops {f} e = no_more (Err f) (next-is (Err f) e)

    pub reads-goes-on : {v : A} {next : ℕ} → one at ≡ read v next → Reads one was from (set now i v) next (i + 1)
    reads-goes-on {v} {next} e =
        let all = row one was from in
        let more = row_from one (length was - (i + 1)) next in
        let same : ◌≡◌ {A = List A × Result ℕ Fault} (v ∷ more.0, more.1) (drop i all.0, all.1) = sym (next-is (read v next) e) ∙ r.rest in
        let there : v ∷ more.0 ≡ drop i all.0 = ap (λ p. p.0) same in
        let within : i < length all.0 = omega (arith, length-drop i all.0, ap length there) in
        let entry : v ∷ more.0 ≡ get_or all.0 i v ∷ drop (i + 1) all.0 = there ∙ rw (add-one i) (drop-cons all.0 i v within) in
        let first : v ≡ get_or all.0 i v = cc in
        let others : more.0 ≡ drop (i + 1) all.0 = cc in
        record {
          stand = filling-goes-on all.0 was now i r.stand v v within first;
          rest = ap₂ (λ (l : List A) (end : Result ℕ Fault). (l, end)) others (ap (λ p. p.1) same);
        }
