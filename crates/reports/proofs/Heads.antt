-- What the tests of the flow file's reader come to: a number by form and by value, in front of what the rest says; the whole head.
-- Assumes nothing.
use mathlib.Core.Path.{◌≡◌, refl, ap, ◌∙◌}
use mathlib.Core.Bool.{Bool, true, false, not, cond}
use mathlib.Core.List.{List}
use Prim.Native.Nat.{ℕ, ◌*◌, ◌≤◌}
use native.Mathlib.Omega.{arith}
use borrow.Author.Tests.{ltb-false, le-ltb}
use lib.Dec.{ltb}
use Rattle.laws.proofs.Bools.{or_left, or_right}
use Rattle.std.specs.Prelude.{Ok, Err}
use Rattle.groups.specs.Groups.{number_at, number_is}
use Rattle.groups.proofs.Onward.{in_place}
use Rattle.laws.specs.Refusals.{first_of}
use Rattle.sets.specs.Sets.{too_large}
use Rattle.charts.specs.declared.Chart.{Chart}
use Rattle.charts.specs.declared.Refusal.{Refusal}
use Rattle.charts.specs.Records.{number, changed, no_chart, new_chart, new_of, with_set, with_count, kind_wrong, size_wrong, own_wrong}
use Rattle.charts.proofs.Answers.{number-some}
use Rattle.reports.specs.Flow.{Said, refused, count_wrong}
use Rattle.reports.specs.Flow as flow
use Rattle.reports.specs.Steps.{Legal}

-- ---- one number

-- a number stands there, and its value is not wrong
pub record Passed (wrong : ℕ → Bool) (s : List ℕ) (at v next : ℕ) : Type 0 where
  pub stands : number_at s at ≡ number_is v next
  pub right : wrong v ≡ false

module _ (why : ℕ) (wrong : ℕ → Bool) (s : List ℕ) (at : ℕ) (rest : ℕ → ℕ → Said) where
  pub goes : {v next : ℕ} → Passed wrong s at v next → flow.number why wrong s at rest ≡ rest v next
  goes {v} {next} p = in_place (refused 12) (refused why) (λ v. not (wrong v)) s at rest v next p.stands (ap not p.right)

-- ---- what is read behind each of the four numbers

module _ (s : List ℕ) where
  abbrev pub after_count : ℕ → ℕ → ℕ → ℕ → ℕ → Said
  after_count kind size set count end =
      flow.values_from s (with_count (with_set (new_chart kind size) (record { mask = set })) count) (count * size) end

  abbrev pub after_set : ℕ → ℕ → ℕ → ℕ → Said
  after_set kind size set r = flow.number 5 (count_wrong size) s r (after_count kind size set)

  abbrev pub after_size : ℕ → ℕ → ℕ → Said
  after_size kind size q = flow.number 4 too_large s q (after_set kind size)

  abbrev pub after_kind : ℕ → ℕ → Said
  after_kind kind p = flow.number 1 (size_wrong kind) s p (after_size kind)

-- ---- a chart can be made exactly if its size is not wrong

module _ (kind size : ℕ) (k : kind_wrong kind ≡ false) where
  new_is : new_of kind size ≡ cond (size_wrong kind size) (1, no_chart) (0, new_chart kind size)
  unfolding new_of first_of
  new_is = rw k refl

  pub chart-made : (c : Chart) → changed no_chart (Ok c) ≡ new_of kind size → (size_wrong kind size ≡ false) × (c ≡ new_chart kind size)
  chart-made c e = by (size_wrong kind size) (e ∙ new_is)
    where
      by : (b : Bool) → (0, c) ≡ cond {A = ℕ × Chart} b (1, no_chart) (0, new_chart kind size) → (b ≡ false) × (c ≡ new_chart kind size)
      by true z = absurd (let n = ap (λ (p : ℕ × Chart). p.0) z in omega arith)
      by false z = (refl, ap (λ (p : ℕ × Chart). p.1) z)

  pub none_made : (why : Refusal) → changed no_chart (Err why) ≡ new_of kind size → size_wrong kind size ≡ true
  none_made why e = by (size_wrong kind size) (e ∙ new_is)
    where
      by : (b : Bool) → (number why, no_chart) ≡ cond {A = ℕ × Chart} b (1, no_chart) (0, new_chart kind size) → b ≡ true
      by true z = refl
      by false z = absurd (number-some why (ap (λ (p : ℕ × Chart). p.0) z))

-- ---- the record that the head names

abbrev pub named : ℕ → ℕ → ℕ → ℕ → Chart
named kind size set count = with_count (with_set (new_chart kind size) (record { mask = set })) count

pub legal : (kind size set count : ℕ) → kind_wrong kind ≡ false → size_wrong kind size ≡ false → set ≤ 511 → count_wrong size count ≡ false
    → Legal (named kind size set count)
unfolding own_wrong
legal kind size set count k z t n =
    let few = or_left (ltb 4096 count) (ltb 2048 (count * size)) n in
    record {
      own = rw (k, z, few, le-ltb _ set t) refl;
      few = ltb-false 2048 (count * size) (or_right (ltb 4096 count) (ltb 2048 (count * size)) n);
      unstopped = refl;
    }
