-- The calls of evaluating and of the sigma figures. Where a slice is stated by the number that is answered, the answers coincide first.
-- Assumes nothing.
use mathlib.Core.Path.{◌≡◌, sym, ap, ◌∙◌}
use mathlib.Core.List.{List}
use Prim.Native.Nat.{ℕ}
use lib.Ieee.{Float}
use Rattle.laws.specs.Front.{lent_after}
use Rattle.floats.specs.Values.{plus_zero}
use Rattle.std.specs.Prelude.{Result}
use Rattle.charts.specs.declared.Refusal.{Refusal}
use Rattle.evaluating.specs.declared.Evaluation.{Evaluation}
use Rattle.evaluating.specs.Asked.{asked, interrupted, in_mode}
use Rattle.evaluating.specs.Series.{series_of}
use Rattle.evaluating.specs.Evaluating.{Answer, series_marks}
use Rattle.evaluating.proofs.Answers.{lengths-one, limited-one, evaluated-one, estimated-one, figured-one}
use Rattle.evaluating.proofs.none_stands.Reads as none-stands
use Rattle.evaluating.proofs.none_stands.Kinds as none-stands-kinds
use Rattle.evaluating.proofs.Evaluation.none_stands.Reads as none-stand
use Rattle.evaluating.proofs.Evaluation.none_stands.Kinds as none-stand-kinds
use Rattle.evaluating.proofs.limits_about.Reads as limits-about
use Rattle.evaluating.proofs.limits_about.Kinds as limits-about-kinds
use Rattle.evaluating.proofs.clear.Reads as clear
use Rattle.evaluating.proofs.clear.Kinds as clear-kinds
use Rattle.evaluating.proofs.points.Reads as points
use Rattle.evaluating.proofs.points.Kinds as points-kinds
use Rattle.evaluating.proofs.evaluate.Reads as evaluate
use Rattle.evaluating.proofs.evaluate.Kinds as evaluate-kinds
use Rattle.evaluating.proofs.estimate.Reads as estimate
use Rattle.evaluating.proofs.estimate.Kinds as estimate-kinds
use Rattle.evaluating.proofs.sigma_hat.Reads as sigma-hat
use Rattle.evaluating.proofs.sigma_hat.Kinds as sigma-hat-kinds
use Rattle.evaluating.proofs.sigma_hat_df.Reads as sigma-hat-df
use Rattle.evaluating.proofs.sigma_hat_df.Kinds as sigma-hat-df-kinds
use Rattle.promises.proofs.Coincide.{Coincide}

none-stand-one : Coincide 0 none-stand-kinds.ps none-stand-kinds.r none-stand.Post (λ κs x s. x)
none-stand-one κs a x y s t p q = p ∙ sym q

none-stands-one : Coincide 0 none-stands-kinds.ps none-stands-kinds.r none-stands.Post (λ κs x s. x)
none-stands-one κs a x y s t p q = p ∙ sym q

-- what evaluating leaves: its answer, both series, both mark slices
pub record Left : Type 0 where
  pub answer : Result Evaluation Refusal
  pub main : List Float
  pub dispersion : List Float
  pub main_marks : List ℕ
  pub dispersion_marks : List ℕ

evaluate-one : Coincide 6 evaluate-kinds.ps evaluate-kinds.r evaluate.Post {Seen = Left} (λ κs x s. record {
  answer = x;
  main = s.1.1.1.1.0.now;
  dispersion = s.1.1.1.1.1.0.now;
  main_marks = s.1.1.1.1.1.1.0.now;
  dispersion_marks = s.1.1.1.1.1.1.1.0.now;
})
evaluate-one κs a x y s t p q =
    let number = ap (λ (r : Answer). r.number) (p.0 ∙ sym q.0) in
    let values = asked a.0 a.1.0.now in
    let question = in_mode (interrupted values a.1.1.0.now) a.1.1.1.0 in
    let answer : x ≡ y = evaluated-one x y (p.0 ∙ sym q.0) in
    let main = p.1.0 ∙ ap (λ (n : ℕ). lent_after n plus_zero (series_of values 0) a.1.1.1.1.0.now) number ∙ sym q.1.0 in
    let dispersion = p.1.1.0 ∙ ap (λ (n : ℕ). lent_after n plus_zero (series_of values 1) a.1.1.1.1.1.0.now) number ∙ sym q.1.1.0 in
    let main_marks = p.1.1.1.0 ∙ ap (λ (n : ℕ). lent_after n 0 (series_marks question 0) a.1.1.1.1.1.1.0.now) number ∙ sym q.1.1.1.0 in
    let dispersion_marks = p.1.1.1.1 ∙ ap (λ (n : ℕ). lent_after n 0 (series_marks question 1) a.1.1.1.1.1.1.1.0.now) number ∙ sym q.1.1.1.1 in
    cc (answer, main, dispersion, main_marks, dispersion_marks)

limits-about-one : Coincide 0 limits-about-kinds.ps limits-about-kinds.r limits-about.Post (λ κs x s. x)
limits-about-one κs a x y s t p q = limited-one x y (p ∙ sym q)

-- what clearing leaves in the four slices
pub record Cleared : Type 0 where
  pub main : List Float
  pub dispersion : List Float
  pub main_marks : List ℕ
  pub dispersion_marks : List ℕ

clear-one : Coincide 4 clear-kinds.ps clear-kinds.r clear.Post {Seen = Cleared} (λ κs x s. record {
  main = s.0.now;
  dispersion = s.1.0.now;
  main_marks = s.1.1.0.now;
  dispersion_marks = s.1.1.1.0.now;
})
clear-one κs a x y s t p q =
    let main = p.0 ∙ sym q.0 in
    let dispersion = p.1.0 ∙ sym q.1.0 in
    let main_marks = p.1.1.0 ∙ sym q.1.1.0 in
    let dispersion_marks = p.1.1.1 ∙ sym q.1.1.1 in
    cc (main, dispersion, main_marks, dispersion_marks)

points-one : Coincide 0 points-kinds.ps points-kinds.r points.Post (λ κs x s. x)
points-one κs a x y s t p q = lengths-one x y (p ∙ sym q)

estimate-one : Coincide 1 estimate-kinds.ps estimate-kinds.r estimate.Post (λ κs x s. x)
estimate-one κs a x y s t p q = estimated-one x y (p ∙ sym q)

sigma-hat-one : Coincide 1 sigma-hat-kinds.ps sigma-hat-kinds.r sigma-hat.Post (λ κs x s. x)
sigma-hat-one κs a x y s t p q = figured-one x y (p ∙ sym q)

sigma-hat-df-one : Coincide 1 sigma-hat-df-kinds.ps sigma-hat-df-kinds.r sigma-hat-df.Post (λ κs x s. x)
sigma-hat-df-one κs a x y s t p q = figured-one x y (p ∙ sym q)
