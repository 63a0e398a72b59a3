-- A slice that is filled from the front, one entry at a time, with the entries of a list: the invariant of every loop that
-- writes one. Assumes nothing.
use mathlib.Core.Path.{◌≡◌, refl, sym, ap, ap₂, ◌∙◌}
use mathlib.Core.List.{List, ◌++◌, append-nil}
use Prim.Native.Nat.{ℕ, suc, ◌+◌, ◌≤◌, ◌<◌}
use native.Mathlib.Nat.{zero-add, add-zero}
use native.Mathlib.Numerals.{add-one}
use native.Mathlib.Omega.{arith}
use lib.ListN.{length, get_or, take, drop, set, length-drop, length-append, drop_of_length-le}
use lib.Seq.{paste, paste-suc, length-take-le, take-length, get_or-append-add, get_or-drop}
use Rattle.laws.specs.Lists.{tabulate}
use Rattle.laws.specs.Front.{at_front}
use Rattle.laws.proofs.Lists.{length-tabulate, get_d_tabulate}

module _ {A : Type 0} where
  -- the first n entries of xs, and from n on what was there before
  abbrev pub filled : List A → List A → ℕ → List A
  filled xs old n = take n xs ++ drop n old

  -- one entry more
  filled-suc : (xs old : List A) (n : ℕ) (z : A) → n < length xs → length xs ≤ length old
      → set (filled xs old n) n (get_or xs n z) ≡ filled xs old (suc n)
  filled-suc xs old n z h k =
      let pasted : (m : ℕ) → paste old 0 xs m ≡ filled xs old m = λ m. ap (λ (j : ℕ). take m xs ++ drop j old) (zero-add m) in
      ap₂ (λ (l : List A) (j : ℕ). set l j (get_or xs n z)) (sym (pasted n)) (sym (zero-add n))
      ∙ paste-suc old 0 xs n z (omega arith) h ∙ pasted (suc n)

-- i entries of xs stand at the front of `now`, which was `old`
pub record Filling {A : Type 0} (xs old now : List A) (i : ℕ) : Type 0 where
  pub within : i ≤ length xs
  pub room : length xs ≤ length old
  pub holds : now ≡ filled xs old i

module _ {A : Type 0} (xs old : List A) where
  pub filling-starts : length xs ≤ length old → Filling xs old old 0
  filling-starts h = record { within = omega arith; room = h; holds = refl }

  module _ (now : List A) (i : ℕ) (f : Filling xs old now i) where
    pub filling-length : length now ≡ length old
    filling-length =
        ap length f.holds
        ∙ omega (arith, length-append (take i xs) (drop i old), length-take-le i xs f.within, length-drop i old, f.within, f.room)

    pub filling-goes-on : (z x : A) → i < length xs → x ≡ get_or xs i z → Filling xs old (set now i x) (i + 1)
    filling-goes-on z x h e = record {
      within = omega arith;
      room = f.room;
      holds =
          ap₂ (λ (l : List A) (a : A). set l i a) f.holds e
          ∙ filled-suc xs old i z h f.room
          ∙ ap (filled xs old) (sym (add-one i));
    }

    pub filling-ends : length xs ≤ i → now ≡ at_front xs old
    filling-ends h =
        let all : i ≡ length xs = omega (arith, f.within) in
        f.holds ∙ ap (filled xs old) all ∙ ap (λ (l : List A). l ++ drop (length xs) old) (take-length xs)

-- a front that is the whole
pub front-all : {A : Type 0} (xs old : List A) → length old ≤ length xs → at_front xs old ≡ xs
front-all xs old h = ap (λ (l : List _). xs ++ l) (drop_of_length-le old h) ∙ append-nil xs

-- The same where the list is a table: entry i is f i.
module _ {A : Type 0} (f : ℕ → A) (n : ℕ) (old : List A) where
  abbrev pub Tabling : List A → ℕ → Type 0
  Tabling now i = Filling (tabulate f n) old now i

  pub tabling-starts : n ≤ length old → Tabling old 0
  tabling-starts h = filling-starts (tabulate f n) old (rw (length-tabulate f n) h)

  module _ (now : List A) (i : ℕ) (t : Tabling now i) where
    pub tabling-length : length now ≡ length old
    tabling-length = filling-length (tabulate f n) old now i t

    pub tabling-room : i < n → i < length now
    tabling-room h = omega (arith, t.room, length-tabulate f n, tabling-length)

    pub tabling-goes-on : (x : A) → i < n → x ≡ f i → Tabling (set now i x) (i + 1)
    tabling-goes-on x h e =
        filling-goes-on (tabulate f n) old now i t x x (omega (arith, length-tabulate f n)) (e ∙ sym (get_d_tabulate f n i x h))

    pub tabling-ends : n ≤ i → now ≡ at_front (tabulate f n) old
    tabling-ends h = filling-ends (tabulate f n) old now i t (omega (arith, length-tabulate f n))

    -- the table is all of the slice
    pub tabling-all : length old ≤ n → n ≤ i → now ≡ tabulate f n
    tabling-all h e = tabling-ends e ∙ front-all (tabulate f n) old (omega (arith, length-tabulate f n))

    -- what is still to be changed is as it was
    pub in_place : (z : A) → get_or now i z ≡ get_or old i z
    in_place z =
        let xs = tabulate f n in
        let here : i ≡ length (take i xs) + 0 = omega (arith, length-take-le i xs t.within) in
        ap (λ (l : List A). get_or l i z) t.holds
        ∙ ap (λ (k : ℕ). get_or (take i xs ++ drop i old) k z) here
        ∙ get_or-append-add (take i xs) (drop i old) 0 z
        ∙ get_or-drop i old 0 z
        ∙ ap (λ (k : ℕ). get_or old k z) (add-zero i)
