-- What a record tells that is not wrong: bounds of its numbers, and room for its values. Assumes nothing.
use mathlib.Core.Path.{◌≡◌, sym, ◌∙◌}
use mathlib.Core.Bool.{false, not, ◌||◌}
use Prim.Native.Nat.{ℕ, ◌*◌, ◌≤◌}
use native.Mathlib.Decide.{ℕ_discrete}
use native.Mathlib.Nat.{mul-le-mul_right, mul-le-mul_left, le_trans}
use native.Mathlib.Omega.{arith}
use borrow.Author.Tests.{ltb-false, eqb-true, not-false}
use lib.Dec.{ltb, eqb}
use Rattle.laws.proofs.Bools.{or_left, or_right}
use Rattle.sets.specs.Sets.{too_large}
use Rattle.charts.specs.declared.Chart.{Chart}
use Rattle.charts.specs.Records.{kind_wrong, subgroup_wrong, size_wrong, own_wrong, record_wrong}
use Rattle.charts.proofs.Cases.{kind_1, subgroups}

-- ---- sizes

-- a subgroup's size has its column in the factors
pub subgroup-size : (kind size : ℕ) → size_wrong kind size ≡ false → (kind ≡ 1 → ⊥) → (2 ≤ size) × (size ≤ 25)
unfolding size_wrong
subgroup-size kind size h ne =
    let e : subgroup_wrong size ≡ false = sym (subgroups kind (not (eqb size 1)) (subgroup_wrong size) ne) ∙ h in
    (ltb-false size 2 (or_left (ltb size 2) (ltb 25 size) e), ltb-false 25 size (or_right (ltb size 2) (ltb 25 size) e))

single-size : (kind size : ℕ) → size_wrong kind size ≡ false → kind ≡ 1 → size ≡ 1
unfolding size_wrong
single-size kind size h e =
    eqb-true size 1 (not-false (eqb size 1) (sym (kind_1 kind (not (eqb size 1)) (subgroup_wrong size) (subgroup_wrong size) e) ∙ h))

pub size-bounds : (kind size : ℕ) → size_wrong kind size ≡ false → (1 ≤ size) × (size ≤ 25)
size-bounds kind size h = by (ℕ_discrete kind 1)
  where
    by : Dec (kind ≡ 1) → (1 ≤ size) × (size ≤ 25)
    by (yes e) = omega (arith, single-size kind size h e)
    by (no ne) = omega (arith, subgroup-size kind size h ne)

-- ---- records

pub record Own (c : Chart) : Type 0 where
  pub size-right : size_wrong c.kind c.size ≡ false
  pub some : 1 ≤ c.size
  pub most : c.size ≤ 25
  pub few : c.count ≤ 4096
  pub set-small : c.set.mask ≤ 511
  pub all : c.count * c.size ≤ 102400

pub own : (c : Chart) → own_wrong c ≡ false → Own c
unfolding own_wrong
own c h =
    let kinds = kind_wrong c.kind in
    let sizes = size_wrong c.kind c.size in
    let counts = ltb 4096 c.count in
    let sets = too_large c.set.mask in
    let three = or_left (kinds || sizes || counts) sets h in
    let two = or_left (kinds || sizes) counts three in
    let right = or_right kinds sizes two in
    let bounds = size-bounds c.kind c.size right in
    let few = ltb-false 4096 c.count (or_right (kinds || sizes) counts three) in
    record {
      size-right = right;
      some = bounds.0;
      most = bounds.1;
      few = few;
      set-small = ltb-false _ c.set.mask (or_right (kinds || sizes || counts) sets h);
      all = le_trans (mul-le-mul_right c.size few) (mul-le-mul_left 4096 bounds.1);
    }

pub own_of : (c : Chart) (room : ℕ) → record_wrong c room ≡ false → own_wrong c ≡ false
unfolding record_wrong
own_of c room h = or_left (own_wrong c) (ltb room (c.count * c.size)) h

pub record Held (c : Chart) (room : ℕ) : Type 0 where
  pub figures : Own c
  pub within : c.count * c.size ≤ room

pub held : (c : Chart) (room : ℕ) → record_wrong c room ≡ false → Held c room
unfolding record_wrong
held c room h = record {
  figures = own c (own_of c room h);
  within = ltb-false room (c.count * c.size) (or_right (own_wrong c) (ltb room (c.count * c.size)) h);
}

-- ---- the factors' column for a chart of subgroups
pub column : (c : Chart) → own_wrong c ≡ false → (c.kind ≡ 1 → ⊥) → (2 ≤ c.size) × (c.size ≤ 25)
column c h ne = subgroup-size c.kind c.size (own c h).size-right ne
