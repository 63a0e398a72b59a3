-- The calls of points. Where a slice is stated by the number that is answered, the answers coincide first. Assumes nothing.
use mathlib.Core.Path.{◌≡◌, sym, ap, ◌∙◌}
use mathlib.Core.Bool.{Bool, false}
use mathlib.Core.List.{List}
use Prim.Native.Nat.{ℕ}
use lib.Ieee.{Float}
use lib.ListN.{take}
use Rattle.laws.specs.Front.{lent_after}
use Rattle.floats.specs.Values.{plus_zero}
use Rattle.std.specs.Prelude.{Result, ⊤}
use Rattle.points.specs.declared.Refusal.{Refusal}
use Rattle.points.specs.Points.{uppers, lowers, outs, zs, has_zs}
use Rattle.points.specs.Plotting.{plot_from}
use Rattle.points.proofs.Plotting.{plotted-one}
use Rattle.points.proofs.RefusalNumbered.number.Reads as number
use Rattle.points.proofs.RefusalNumbered.number.Kinds as number-kinds
use Rattle.points.proofs.too_short.Reads as too_short
use Rattle.points.proofs.too_short.Kinds as too-short-kinds
use Rattle.points.proofs.plot.Reads as plot
use Rattle.points.proofs.plot.Kinds as plot-kinds
use Rattle.promises.proofs.Coincide.{Coincide}

number-one : Coincide 1 number-kinds.ps number-kinds.r number.Post (λ κs x s. x)
number-one κs a x y s t p q = p ∙ sym q

too-short-one : Coincide 1 too-short-kinds.ps too-short-kinds.r too_short.Post (λ κs x s. x)
too-short-one κs a x y s t p q = p ∙ sym q

-- what a call that writes the columns of points leaves: its answer, and the six slices
pub record Left (A : Type 0) : Type 0 where
  pub answer : A
  pub values : List Float
  pub ucl : List Float
  pub lcl : List Float
  pub out : List Bool
  pub z : List Float
  pub has_z : List Bool

plot-one : Coincide 6 plot-kinds.ps plot-kinds.r plot.Post {Seen = Left (Result ⊤ Refusal)} (λ κs x s. record {
  answer = x;
  values = s.1.1.0.now;
  ucl = s.1.1.1.0.now;
  lcl = s.1.1.1.1.0.now;
  out = s.1.1.1.1.1.0.now;
  z = s.1.1.1.1.1.1.0.now;
  has_z = s.1.1.1.1.1.1.1.0.now;
})
plot-one κs a x y s t p q =
    let number = p.0 ∙ sym q.0 in
    let answer : x ≡ y = plotted-one x y number in
    let g = plot_from a.0 a.1.0 a.1.1.0.now a.1.1.1.0.now in
    let values = p.1.0 ∙ ap (λ (n : ℕ). lent_after n plus_zero (take a.1.0 a.1.1.0.now) a.1.1.0.now) number ∙ sym q.1.0 in
    let ucl = p.1.1.0 ∙ ap (λ (n : ℕ). lent_after n plus_zero (uppers g) a.1.1.1.0.now) number ∙ sym q.1.1.0 in
    let lcl = p.1.1.1.0 ∙ ap (λ (n : ℕ). lent_after n plus_zero (lowers g) a.1.1.1.1.0.now) number ∙ sym q.1.1.1.0 in
    let out = p.1.1.1.1.0 ∙ ap (λ (n : ℕ). lent_after n false (outs g) a.1.1.1.1.1.0.now) number ∙ sym q.1.1.1.1.0 in
    let z = p.1.1.1.1.1.0 ∙ ap (λ (n : ℕ). lent_after n plus_zero (zs g) a.1.1.1.1.1.1.0.now) number ∙ sym q.1.1.1.1.1.0 in
    let has_z = p.1.1.1.1.1.1 ∙ ap (λ (n : ℕ). lent_after n false (has_zs g) a.1.1.1.1.1.1.1.0.now) number ∙ sym q.1.1.1.1.1.1 in
    cc (answer, values, ucl, lcl, out, z, has_z)
