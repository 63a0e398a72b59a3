-- What goes by the kind, case by case. Assumes nothing.
use mathlib.Core.Path.{◌≡◌, refl}
use mathlib.Core.Bool.{Bool, true, false, cond}
use Prim.Native.Nat.{ℕ}
use borrow.Author.Tests.{eq-eqb, ne_eqb}
use lib.Dec.{eqb}
use Rattle.charts.specs.Records.{by_kind}

module _ {A : Type 0} (kind : ℕ) (individuals ranges deviations : A) where
  pub kind_1 : kind ≡ 1 → by_kind kind individuals ranges deviations ≡ individuals
  unfolding by_kind
  kind_1 e = rw (eq-eqb kind 1 e)

  pub kind_2 : (kind ≡ 1 → ⊥) → kind ≡ 2 → by_kind kind individuals ranges deviations ≡ ranges
  unfolding by_kind
  kind_2 ne e = rw (ne_eqb kind 1 ne, eq-eqb kind 2 e)

  pub kind_3 : (kind ≡ 1 → ⊥) → (kind ≡ 2 → ⊥) → by_kind kind individuals ranges deviations ≡ deviations
  unfolding by_kind
  kind_3 ne nt = rw (ne_eqb kind 1 ne, ne_eqb kind 2 nt)

-- where both kinds of subgroups have the same
pub subgroups : {A : Type 0} (kind : ℕ) (individuals both : A) → (kind ≡ 1 → ⊥) → by_kind kind individuals both both ≡ both
unfolding by_kind
subgroups kind individuals both ne = rw (ne_eqb kind 1 ne) (same (eqb kind 2))
  where
    same : (b : Bool) → cond b both both ≡ both
    same true = refl
    same false = refl
