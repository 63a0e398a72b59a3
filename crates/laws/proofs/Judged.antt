-- A table of yes and no, judged place after place. Assumes nothing.
use mathlib.Core.Path.{◌≡◌, sym, ap, ◌∙◌}
use mathlib.Core.Bool.{Bool, true, ◌&&◌, and-true, and_assoc}
use Prim.Native.Nat.{ℕ, zero, suc, ◌+◌, ◌-◌, ◌≤◌, ◌<◌}
use native.Mathlib.Nat.{add-zero, zero-add, add-suc, suc-add, sub-zero, le_of_suc-le-suc}
use native.Mathlib.Numerals.{add-one}
use native.Mathlib.Omega.{arith}
use Rattle.laws.specs.Bools.{every}
use Rattle.laws.specs.Lists.{tabulate_from, tabulate}
use Rattle.laws.proofs.Bools.{both}

-- what was seen so far and the rest together say what the whole says

pub record Judged (f : ℕ → Bool) (n i : ℕ) (seen : Bool) : Type 0 where
  pub within : i ≤ n
  pub says : (seen && every (tabulate_from f i (n - i))) ≡ every (tabulate f n)

module _ (f : ℕ → Bool) (n : ℕ) where
  pub judged-starts : Judged f n 0 true
  judged-starts = record { within = omega arith; says = ap (λ (k : ℕ). every (tabulate_from f 0 k)) (sub-zero n) }

  module _ (i : ℕ) (seen : Bool) (j : Judged f n i seen) where
    pub judged-next : (x : Bool) → i < n → x ≡ f i → Judged f n (i + 1) (seen && x)
    unfolding every tabulate_from
    judged-next x h e =
        let left : n - i ≡ suc (n - suc i) = omega arith in
        record {
          within = omega arith;
          says =
              rw (add-one i, e)
              (and_assoc seen (f i) (every (tabulate_from f (suc i) (n - suc i)))
              ∙ sym (ap (λ (k : ℕ). seen && every (tabulate_from f i k)) left)
              ∙ j.says);
        }

    pub judged-all : n ≤ i → seen ≡ every (tabulate f n)
    unfolding every tabulate_from
    judged-all h =
        let none : n - i ≡ 0 = omega arith in
        sym (and-true seen) ∙ sym (ap (λ (k : ℕ). seen && every (tabulate_from f i k)) none) ∙ j.says

every-from : (f : ℕ → Bool) (i n k : ℕ) → every (tabulate_from f i n) ≡ true → k < n → f (i + k) ≡ true
unfolding every tabulate_from
every-from f i zero k e h = absurd (omega arith)
every-from f i (suc n) zero e h = ap f (add-zero i) ∙ (both (f i) (every (tabulate_from f (suc i) n)) e).0
every-from f i (suc n) (suc k) e h =
    ap f (add-suc i k ∙ sym (suc-add i k)) ∙ every-from f (suc i) n k (both (f i) (every (tabulate_from f (suc i) n)) e).1 (le_of_suc-le-suc h)

pub every-at : (f : ℕ → Bool) (n : ℕ) → every (tabulate f n) ≡ true → (k : ℕ) → k < n → f k ≡ true
every-at f n e k h = ap f (sym (zero-add k)) ∙ every-from f 0 n k e h
