-- The length and the entries of a tabulated list. Assumes nothing.
use mathlib.Core.Path.{◌≡◌, refl, sym, ap, ◌∙◌}
use mathlib.Core.List.{List, [], ◌∷◌, map}
use Prim.Native.Nat.{ℕ, zero, suc, ◌+◌, ◌≤◌, ◌<◌}
use native.Mathlib.Nat.{add-zero, zero-add, add-suc, suc-add, le_of_suc-le-suc}
use native.Mathlib.Omega.{arith}
use lib.ListN.{length, get_or, take}
use lib.Seq.{get_or-take, length-take-le}
use Rattle.laws.specs.Lists.{tabulate_from, tabulate}

module _ {A : Type 0} (f : ℕ → A) where
  pub length_from : (i n : ℕ) → length (tabulate_from f i n) ≡ n
  unfolding tabulate_from
  length_from i zero = refl
  length_from i (suc n) = ap suc (length_from (suc i) n)

  get_d-from : (i n k : ℕ) (z : A) → k < n → get_or (tabulate_from f i n) k z ≡ f (i + k)
  unfolding tabulate_from
  get_d-from i zero k z h = absurd (omega arith)
  get_d-from i (suc n) zero z h = ap f (sym (add-zero i))
  get_d-from i (suc n) (suc k) z h = get_d-from (suc i) n k z (le_of_suc-le-suc h) ∙ ap f (suc-add i k ∙ sym (add-suc i k))

  pub length-tabulate : (n : ℕ) → length (tabulate f n) ≡ n
  length-tabulate n = length_from 0 n

  pub get_d_tabulate : (n k : ℕ) (z : A) → k < n → get_or (tabulate f n) k z ≡ f k
  get_d_tabulate n k z h = get_d-from 0 n k z h ∙ ap f (zero-add k)

  take-from : (i m n : ℕ) → m ≤ n → take m (tabulate_from f i n) ≡ tabulate_from f i m
  unfolding tabulate_from
  take-from i zero n h = refl
  take-from i (suc m) zero h = absurd (omega arith)
  take-from i (suc m) (suc n) h = ap (λ (l : List A). f i ∷ l) (take-from (suc i) m n (le_of_suc-le-suc h))

  -- the front of a table is a table
  pub take-tabulate : (m n : ℕ) → m ≤ n → take m (tabulate f n) ≡ tabulate f m
  take-tabulate m n h = take-from 0 m n h

-- two tables with the same entries are one
same_from : {A : Type 0} (f g : ℕ → A) (i n : ℕ) → ((k : ℕ) → k < i + n → f k ≡ g k) → tabulate_from f i n ≡ tabulate_from g i n
unfolding tabulate_from
same_from f g i zero h = refl
same_from f g i (suc n) h = rw (h i (omega arith)) (ap (λ (l : List _). g i ∷ l) (same_from f g (suc i) n (λ k q. h k (omega arith))))

pub same-tabulate : {A : Type 0} (f g : ℕ → A) (n : ℕ) → ((k : ℕ) → k < n → f k ≡ g k) → tabulate f n ≡ tabulate g n
same-tabulate f g n h = same_from f g 0 n (λ k q. h k (omega arith))

-- a table over the entries of a list's front
pub tabulate-front : {A B : Type 0} (f : ℕ → A → B) (xs : List A) (n : ℕ) (z : A) → n ≤ length xs
    → tabulate (λ i. f i (get_or xs i z)) n ≡ tabulate (λ i. f i (get_or (take n xs) i z)) (length (take n xs))
tabulate-front f xs n z h =
    same-tabulate (λ i. f i (get_or xs i z)) (λ i. f i (get_or (take n xs) i z)) n (λ k q. ap (f k) (sym (get_or-take n xs k z q)))
    ∙ ap (tabulate (λ i. f i (get_or (take n xs) i z))) (sym (length-take-le n xs h))

-- a table over all entries of a list is the list, each entry changed
from_suc : {A : Type 0} (f : ℕ → A) (i n : ℕ) → tabulate_from f (suc i) n ≡ tabulate_from (λ k. f (suc k)) i n
unfolding tabulate_from
from_suc f i zero = refl
from_suc f i (suc n) = ap (λ (l : List _). f (suc i) ∷ l) (from_suc f (suc i) n)

pub tabulate-map : {A B : Type 0} (f : A → B) (xs : List A) (z : A) → tabulate (λ i. f (get_or xs i z)) (length xs) ≡ map f xs
unfolding tabulate_from
tabulate-map f [] z = refl
tabulate-map f (x ∷ xs) z =
    ap (λ (l : List _). f x ∷ l) (from_suc (λ i. f (get_or (x ∷ xs) i z)) 0 (length xs) ∙ tabulate-map f xs z)
