-- A table that is written from the front part by part: what is left of the slice is lent, and the next entries are put at its front.
-- Assumes nothing.
use mathlib.Core.Path.{◌≡◌, sym, ap, ◌∙◌}
use mathlib.Core.List.{List, ◌++◌, append-nil}
use Prim.Native.Nat.{ℕ, ◌+◌, ◌-◌, ◌≤◌, ◌<◌}
use native.Mathlib.Nat.{le_of_eq}
use native.Mathlib.Omega.{arith}
use lib.ListN.{length, take, drop, get_or, length-drop, drop_of_length-le, get_or-append, take-append-drop}
use lib.Seq.{ext_get_or, get_or-append-add, get_or-take, get_or-drop, length-take-le, take_all}
use Rattle.laws.specs.Lists.{tabulate}
use Rattle.laws.specs.Front.{at_front}
use Rattle.laws.proofs.Lists.{length-tabulate, get_d_tabulate}
use Rattle.laws.proofs.Filling.{Tabling, tabling-length}
use Rattle.laws.proofs.Lending.{lent, regained, lent-fills}

pub part-long : {A : Type 0} (xs : List A) (i e : ℕ) → e ≤ length xs → length (take (e - i) (drop i xs)) ≡ e - i
part-long xs i e h = length-take-le (e - i) (drop i xs) (omega (arith, length-drop i xs))

-- the sixteen entries that end at e
module _ {A : Type 0} (xs : List A) (e : ℕ) (many : 16 ≤ e) (within : e ≤ length xs) where
  pub sixteen-long : length (take (e - (e - 16)) (drop (e - 16) xs)) ≡ 16
  sixteen-long = omega (arith, part-long xs (e - 16) e within)

  pub sixteen-room : 16 ≤ length (lent xs (e - 16))
  sixteen-room = omega (arith, part-long xs (e - 16) (length xs) (omega arith))

-- what was lent from i on, and what stands there once it is regained
module _ (now : List ℕ) (i : ℕ) where
  pub lent_at : (j : ℕ) → get_or (lent now i) j 0 ≡ get_or now (i + j) 0
  lent_at j = ap (λ (xs : List ℕ). get_or xs j 0) (take_all (length now - i) (drop i now) (le_of_eq (length-drop i now))) ∙ get_or-drop i now j 0

  module _ (part : List ℕ) (h : i ≤ length now) where
    pub regained-at : (j : ℕ) → get_or (regained now i part) (i + j) 0 ≡ get_or part j 0
    regained-at j =
        let none = drop_of_length-le (drop i now) (le_of_eq (length-drop i now)) in
        ap (λ (xs : List ℕ). get_or (take i now ++ (part ++ xs)) (i + j) 0) none
        ∙ ap (λ (xs : List ℕ). get_or (take i now ++ xs) (i + j) 0) (append-nil part)
        ∙ ap (λ (k : ℕ). get_or (take i now ++ part) (k + j) 0) (sym (length-take-le i now h))
        ∙ get_or-append-add (take i now) part j 0

    pub regained-before : (j : ℕ) → j < i → get_or (regained now i part) j 0 ≡ get_or now j 0
    regained-before j q =
        get_or-append (take i now) _ 0 j (omega (arith, length-take-le i now h)) ∙ get_or-take i now j 0 q

-- the m entries from i on of a table are a table
table-part : (f g : ℕ → ℕ) (n i m : ℕ) → i + m ≤ n → ((j : ℕ) → j < m → g j ≡ f (i + j)) → tabulate g m ≡ take m (drop i (tabulate f n))
table-part f g n i m h same =
    let long : length (take m (drop i (tabulate f n))) ≡ m =
    length-take-le m (drop i (tabulate f n)) (omega (arith, length-drop i (tabulate f n), length-tabulate f n)) in
    ext_get_or 0 (tabulate g m) (take m (drop i (tabulate f n))) (length-tabulate g m ∙ sym long) (λ j q.
    let small : j < m = omega (arith, length-tabulate g m) in
    get_d_tabulate g m j 0 small
    ∙ same j small
    ∙ sym (get_or-take m (drop i (tabulate f n)) j 0 small ∙ get_or-drop i (tabulate f n) j 0 ∙ get_d_tabulate f n (i + j) 0 (omega arith)))

module _ (f : ℕ → ℕ) (n : ℕ) (old now : List ℕ) (i : ℕ) (t : Tabling f n old now i) (m : ℕ) (h : i + m ≤ n) where
  pub part-start : i ≤ length now
  part-start = omega (arith, tabling-length f n old now i t, t.within, t.room)

  pub part_room : m ≤ length (lent now i)
  part_room =
      let rest : length (lent now i) ≡ length now - i = part-long now i (length now) (omega arith) in
      omega (arith, tabling-length f n old now i t, t.room, length-tabulate f n)

  pub part-fills : (g : ℕ → ℕ) → ((j : ℕ) → j < m → g j ≡ f (i + j)) → (part : List ℕ) (k : ℕ) → k ≡ m → part ≡ at_front (tabulate g k) (lent now i)
      → Tabling f n old (regained now i part) (i + m)
  part-fills g same part k count e =
      let rest = drop m (drop i (tabulate f n)) in
      let next : drop i (tabulate f n) ≡ tabulate g m ++ rest =
      sym (take-append-drop m (drop i (tabulate f n))) ∙ ap (λ (xs : List ℕ). xs ++ rest) (sym (table-part f g n i m h same)) in
      lent-fills (tabulate f n) old now i t (tabulate g m) rest next part m (e ∙ ap (λ (x : ℕ). at_front (tabulate g x) (lent now i)) count) (sym (length-tabulate g m))
