-- What goes by the kind, where the code has told the kind. Assumes nothing.
use Rattle.std.proofs.Common.{◌≡◌, ℕ, ◌≤◌, Bool, true, false, cond, eqb, sym, refl, ap, eq-eqb, ne_eqb, ◌∙◌}
use native.Mathlib.Decide.{ℕ_discrete}
use Rattle.charts.specs.declared.Chart.{Chart}
use Rattle.charts.specs.Records.{by_kind, own_wrong}
use Rattle.charts.proofs.Held.{column}
use Rattle.evaluating.specs.declared.kinds.Kind.{Kind}
use Rattle.evaluating.specs.declared.kinds.Kind.TheVariants.{Individuals, Ranges, Deviations}

-- the kind of a number
abbrev pub kind_at : ℕ → Kind
kind_at kind = by_kind kind Individuals Ranges Deviations

-- one thing for each kind
abbrev pub pick : {A : Type 0} → Kind → A → A → A → A
pick Individuals individuals ranges deviations = individuals
pick Ranges individuals ranges deviations = ranges
pick Deviations individuals ranges deviations = deviations

picked : {A : Type 0} (kind : ℕ) (individuals ranges deviations : A) → by_kind kind individuals ranges deviations ≡ pick (kind_at kind) individuals ranges deviations
unfolding by_kind
picked kind individuals ranges deviations = by (eqb kind 1) (eqb kind 2)
  where
    by : (b d : Bool) → cond b individuals (cond d ranges deviations) ≡ pick (cond b Individuals (cond d Ranges Deviations)) individuals ranges deviations
    by true d = refl
    by false true = refl
    by false false = refl

pub of_kind : {A : Type 0} (kind : ℕ) (individuals ranges deviations : A) {told : Kind} → told ≡ kind_at kind
    → pick told individuals ranges deviations ≡ by_kind kind individuals ranges deviations
of_kind kind individuals ranges deviations e = ap (λ (k : Kind). pick k individuals ranges deviations) e ∙ sym (picked kind individuals ranges deviations)

-- individuals have the number 1
pub number-1 : (kind : ℕ) → Individuals ≡ kind_at kind → kind ≡ 1
unfolding by_kind
number-1 kind e = by (ℕ_discrete kind 1)
  where
    other : (kind ≡ 1 → ⊥) → (d : Bool) → Individuals ≡ cond (eqb kind 1) Individuals (cond d Ranges Deviations) → ⊥
    other ne true h = let g : Individuals ≡ Ranges = rw (ne_eqb kind 1 ne) at h in cc
    other ne false h = let g : Individuals ≡ Deviations = rw (ne_eqb kind 1 ne) at h in cc

    by : Dec (kind ≡ 1) → kind ≡ 1
    by (yes h) = h
    by (no ne) = absurd (other ne (eqb kind 2) e)

-- and no other kind has
pub not-1 : (kind : ℕ) {told : Kind} → (told ≡ Individuals → ⊥) → told ≡ kind_at kind → kind ≡ 1 → ⊥
unfolding by_kind
not-1 kind other e one = other (e ∙ ap (λ (b : Bool). cond b Individuals (cond (eqb kind 2) Ranges Deviations)) (eq-eqb kind 1 one))

-- the factors' column for a chart of subgroups
pub size-of : (c : Chart) {told : Kind} → own_wrong c ≡ false → (told ≡ Individuals → ⊥) → told ≡ kind_at c.kind → (2 ≤ c.size) × (c.size ≤ 25)
size-of c right other e = column c right (not-1 c.kind other e)
