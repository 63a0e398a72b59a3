-- The calls of attributes, of charts whose samples have sizes of any type that the crate knows: parcels of a P chart, units of a U chart. Where
-- a slice is stated by the number that is answered, the answers coincide first. Assumes nothing.
use mathlib.Core.Path.{◌≡◌, sym, ap, ◌∙◌}
use mathlib.Core.Bool.{false}
use mathlib.Core.List.{List}
use Prim.Native.Nat.{ℕ}
use lib.Ieee.{Float}
use denote.RattleType.{RattleType}
use denote.Param.Laws.{Laws, IsCopy}
use mir.Syntax.{Dict}
use Rattle.std.specs.Prelude.{Result}
use Rattle.std.specs.declared.clone.Clone as cloning
use Rattle.laws.specs.Front.{lent_after}
use Rattle.floats.specs.Values.{plus_zero}
use Rattle.points.specs.Points.{uppers, lowers, outs, zs, has_zs}
use Rattle.attributes.specs.declared.size.Size as sizes
use Rattle.attributes.specs.declared.Chart.{Chart}
use Rattle.attributes.specs.declared.Refusal.{Refusal}
use Rattle.attributes.specs.Records.{new_chart, kept_after}
use Rattle.attributes.specs.Evaluating.{chart_plot}
use Rattle.attributes.proofs.Answers.{number-one, changed-one, evaluated-one}
use Rattle.attributes.proofs.RefusalNumbered.number.Reads as number
use Rattle.attributes.proofs.RefusalNumbered.number.Kinds as number-kinds
use Rattle.attributes.proofs.RefusalFromPointsRefusal.from.Reads as from
use Rattle.attributes.proofs.RefusalFromPointsRefusal.from.Kinds as from-kinds
use Rattle.attributes.proofs.Chart.new.Reads as new
use Rattle.attributes.proofs.Chart.new.Kinds as new-kinds
use Rattle.attributes.proofs.Chart.with_centre.Reads as with-centre
use Rattle.attributes.proofs.Chart.with_centre.Kinds as with-centre-kinds
use Rattle.attributes.proofs.Chart.add.Reads as add
use Rattle.attributes.proofs.Chart.add.Kinds as add-kinds
use Rattle.attributes.proofs.Chart.evaluate.Reads as evaluate
use Rattle.attributes.proofs.Chart.evaluate.Kinds as evaluate-kinds
use Rattle.promises.proofs.Points.{Left}
use Rattle.promises.proofs.Coincide.{Coincide}

refusal-number-one : Coincide 1 number-kinds.ps number-kinds.r number.Post (λ κs x s. x)
refusal-number-one κs a x y s t p q = p ∙ sym q

from-one : Coincide 0 from-kinds.ps from-kinds.r from.Post (λ κs x s. x)
from-one κs a x y s t p q = number-one x y (p ∙ sym q)

-- a type of sizes, with what the trait of sizes says of it
record Sized : Type 2 where
  S : RattleType
  laws : Laws S
  copied : IsCopy S
  size : sizes.Ghosts S.Denot
  its : Dict
  clone : cloning.Ghosts S.Denot
  other : Dict

new-one : (k : Sized)
    → Coincide 1 (new-kinds.ps k.S k.laws k.copied) (new-kinds.r k.S k.laws k.copied) (new.Post k.S k.laws k.copied k.size k.its k.clone k.other)
    (λ κs x s. x)
new-one k κs a x y s t p q = p ∙ sym q

with-centre-one : (k : Sized)
    → Coincide 1 (with-centre-kinds.ps k.S k.laws k.copied) (with-centre-kinds.r k.S k.laws k.copied)
    (with-centre.Post k.S k.laws k.copied k.size k.its k.clone k.other) (λ κs x s. x)
with-centre-one k κs a x y s t p q = changed-one new_chart x y (p ∙ sym q)

-- what adding leaves: its answer, and the slices of counts and of sizes
pub record Added (A B : Type 0) : Type 0 where
  pub answer : A
  pub counts : List ℕ
  pub sizes : List B

add-one : (k : Sized)
    → Coincide 3 (add-kinds.ps k.S k.laws k.copied) (add-kinds.r k.S k.laws k.copied) (add.Post k.S k.laws k.copied k.size k.its k.clone k.other)
    {Seen = Added (Result (Chart k.S.Denot) Refusal) k.S.Denot} (λ κs x s. record { answer = x; counts = s.1.0.now; sizes = s.1.1.0.now })
add-one k κs a x y s t p q =
    let number = ap (λ (r : ℕ × Chart k.S.Denot). r.0) (p.0 ∙ sym q.0) in
    let answer : x ≡ y = changed-one a.0 x y (p.0 ∙ sym q.0) in
    let counts = p.1.0 ∙ ap (λ (n : ℕ). kept_after n a.0.count a.1.1.1.0 a.1.0.now) number ∙ sym q.1.0 in
    let sizes = p.1.1 ∙ ap (λ (n : ℕ). kept_after n a.0.count a.1.1.1.1.0 a.1.1.0.now) number ∙ sym q.1.1 in
    cc (answer, counts, sizes)

evaluate-one : (k : Sized)
    → Coincide 9 (evaluate-kinds.ps k.S k.laws k.copied) (evaluate-kinds.r k.S k.laws k.copied)
    (evaluate.Post k.S k.laws k.copied k.size k.its k.clone k.other) {Seen = Left (Result Float Refusal)} (λ κs x s. record {
      answer = x;
      values = s.1.1.1.0.now;
      ucl = s.1.1.1.1.0.now;
      lcl = s.1.1.1.1.1.0.now;
      out = s.1.1.1.1.1.1.0.now;
      z = s.1.1.1.1.1.1.1.0.now;
      has_z = s.1.1.1.1.1.1.1.1.0.now;
    })
evaluate-one k κs a x y s t p q =
    let number = ap (λ (r : ℕ × Float). r.0) (p.0 ∙ sym q.0) in
    let answer : x ≡ y = evaluated-one x y (p.0 ∙ sym q.0) in
    let g = chart_plot k.size.kind a.0 a.1.0.now a.1.1.0.now in
    let values = p.1.0 ∙ ap (λ (n : ℕ). lent_after n plus_zero g.values a.1.1.1.0.now) number ∙ sym q.1.0 in
    let ucl = p.1.1.0 ∙ ap (λ (n : ℕ). lent_after n plus_zero (uppers g) a.1.1.1.1.0.now) number ∙ sym q.1.1.0 in
    let lcl = p.1.1.1.0 ∙ ap (λ (n : ℕ). lent_after n plus_zero (lowers g) a.1.1.1.1.1.0.now) number ∙ sym q.1.1.1.0 in
    let out = p.1.1.1.1.0 ∙ ap (λ (n : ℕ). lent_after n false (outs g) a.1.1.1.1.1.1.0.now) number ∙ sym q.1.1.1.1.0 in
    let z = p.1.1.1.1.1.0 ∙ ap (λ (n : ℕ). lent_after n plus_zero (zs g) a.1.1.1.1.1.1.1.0.now) number ∙ sym q.1.1.1.1.1.0 in
    let has_z = p.1.1.1.1.1.1 ∙ ap (λ (n : ℕ). lent_after n false (has_zs g) a.1.1.1.1.1.1.1.1.0.now) number ∙ sym q.1.1.1.1.1.1 in
    cc (answer, values, ucl, lcl, out, z, has_z)
