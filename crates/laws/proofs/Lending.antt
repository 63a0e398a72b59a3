-- A slice that is filled from the front by routines to which what is left of it is lent, `&mut out[i..]`, each of which writes the next
-- entries at the front of its part. Assumes nothing.
use mathlib.Core.Path.{◌≡◌, refl, sym, ap, ap₂, ◌∙◌}
use mathlib.Core.List.{List, [], ◌++◌, append-nil, append_assoc}
use Prim.Native.Nat.{ℕ, ◌+◌, ◌-◌, ◌≤◌}
use native.Mathlib.Nat.{le_of_eq}
use native.Mathlib.Omega.{arith}
use lib.ListN.{length, take, drop, length-append, length-drop, drop_of_length-le}
use lib.Seq.{take_all, take_at, drop_at, take-add, drop-drop, take-append_seam, length-take-le}
use Rattle.laws.specs.Front.{at_front}
use Rattle.laws.proofs.Filling.{Filling, filling-length, filling-ends}

module _ {A : Type 0} where
  -- what is left of a slice from i on, as it is lent
  abbrev pub lent : List A → ℕ → List A
  lent now i = take (length now - i) (drop i now)

  -- the slice again, with what the part has become
  abbrev pub regained : List A → ℕ → List A → List A
  regained now i part = take i now ++ (part ++ drop (length now - i) (drop i now))

-- the first entries were written into the whole slice
pub front-fills : {A : Type 0} (xs old now ys rest : List A) (n : ℕ) → xs ≡ ys ++ rest → length xs ≤ length old
    → now ≡ at_front ys old → n ≡ length ys → Filling xs old now n
front-fills xs old now ys rest n whole room e count = record {
  within = omega (arith, ap length whole, length-append ys rest);
  room = room;
  holds =
      e
      ∙ ap₂ ◌++◌ (sym (take-append_seam ys rest) ∙ ap₂ take (sym count) (sym whole)) (ap (λ (k : ℕ). drop k old) (sym count));
}

-- the entries ys are the next of xs
module _ {A : Type 0} (xs old now : List A) (i : ℕ) (f : Filling xs old now i) (ys rest : List A) (next : drop i xs ≡ ys ++ rest) where
  front-is : take i now ≡ take i xs
  front-is = ap (take i) f.holds ∙ take_at (take i xs) (drop i old) i (length-take-le i xs f.within)

  lent_is : lent now i ≡ drop i old
  lent_is =
      take_all (length now - i) (drop i now) (le_of_eq (length-drop i now))
      ∙ ap (drop i) f.holds
      ∙ drop_at (take i xs) (drop i old) i (length-take-le i xs f.within)

  next_fits : i + length ys ≤ length xs
  next_fits = omega (arith, sym (length-drop i xs) ∙ ap length next ∙ length-append ys rest, f.within)

  pub lent-start : i ≤ length now
  lent-start = omega (arith, filling-length xs old now i f, f.within, f.room)

  pub lent-room : length ys ≤ length (lent now i)
  lent-room = omega (arith, ap length lent_is ∙ length-drop i old, next_fits, f.room)

  pub lent-fills : (part : List A) (n : ℕ) → part ≡ at_front ys (lent now i) → n ≡ length ys → Filling xs old (regained now i part) (i + n)
  lent-fills part n e count =
      let far : i + length ys ≡ i + n = ap (λ (k : ℕ). i + k) (sym count) in
      record {
        within = omega (arith, next_fits);
        room = f.room;
        holds =
            ap₂ ◌++◌ front-is
            (ap (λ (l : List A). part ++ l) (drop_of_length-le (drop i now) (le_of_eq (length-drop i now)))
            ∙ append-nil part ∙ e ∙ ap (λ (l : List A). ys ++ drop (length ys) l) lent_is
            ∙ ap (λ (l : List A). ys ++ l) (drop-drop (length ys) i old))
            ∙ sym (append_assoc (take i xs) ys (drop (i + length ys) old))
            ∙ ap (λ (l : List A). l ++ drop (i + length ys) old)
            (sym (take-add i (length ys) xs ∙ ap (λ (l : List A). take i xs ++ l) (ap (take (length ys)) next ∙ take-append_seam ys rest)))
            ∙ ap (λ (k : ℕ). take k xs ++ drop k old) far;
      }

-- x was written into the whole slice, and y is to go behind it
module _ {A : Type 0} (x y old now : List A) (n : ℕ) (room : length (x ++ y) ≤ length old)
    (first : now ≡ at_front x old) (count : n ≡ length x) where
  begun : Filling (x ++ y) old now n
  begun = front-fills (x ++ y) old now x y n refl room first count

  second : drop n (x ++ y) ≡ y ++ []
  second = drop_at x y n (sym count) ∙ sym (append-nil y)

  pub second-start : n ≤ length now
  second-start = lent-start (x ++ y) old now n begun y [] second

  pub second-room : length y ≤ length (lent now n)
  second-room = lent-room (x ++ y) old now n begun y [] second

  pub second-fills : (part : List A) (m : ℕ) → part ≡ at_front y (lent now n) → m ≡ length y
      → (n + m ≡ length (x ++ y)) × (regained now n part ≡ at_front (x ++ y) old)
  second-fills part m e more =
      let both : n + m ≡ length (x ++ y) = omega (arith, length-append x y) in (
        both,
        filling-ends (x ++ y) old (regained now n part) (n + m)
            (lent-fills (x ++ y) old now n begun y [] second part m e more)
            (le_of_eq (sym both)),
      )
