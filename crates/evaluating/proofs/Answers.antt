-- Two answers with one number and the same values are one answer: so a promise on the number and the values fixes the answer.
-- Assumes nothing.
use Rattle.std.proofs.Common.{◌≡◌, ℕ, sym, ap, ap₂}
use Rattle.std.specs.Prelude.{Result, Ok, Err}
use lib.Ieee.{Float}
use Rattle.numbers.proofs.Numbers.{answered-one}
use Rattle.rules.specs.declared.Limits.{Limits}
use Rattle.charts.specs.declared.Refusal.{Refusal}
use Rattle.charts.proofs.Answers.{number-some, number-one, tells}
use Rattle.evaluating.specs.declared.Lengths.{Lengths}
use Rattle.evaluating.specs.declared.ChartLimits.{ChartLimits}
use Rattle.evaluating.specs.declared.Evaluation.{Evaluation}
use Rattle.evaluating.specs.declared.SigmaFigures.{SigmaFigures}
use Rattle.evaluating.specs.Series.{lengths}
use Rattle.evaluating.specs.Evaluating.{evaluated}
use Rattle.evaluating.specs.Centres.{limited}
use Rattle.evaluating.specs.Sigma.{figured, estimated}

pub lengths-one : (a b : Result Lengths Refusal) → lengths a ≡ lengths b → a ≡ b
lengths-one (Ok m) (Ok n) e = ap₂ (λ (x y : ℕ). Ok (record { main = x; dispersion = y })) (ap (λ p. p.1) e) (ap (λ p. p.2) e)
lengths-one (Ok m) (Err w) e = absurd (number-some w (sym (ap (λ p. p.0) e)))
lengths-one (Err v) (Ok n) e = absurd (number-some v (ap (λ p. p.0) e))
lengths-one (Err v) (Err w) e = ap (λ (y : Refusal). Err y) (number-one v w (ap (λ p. p.0) e))

pub evaluated-one : (a b : Result Evaluation Refusal) → evaluated a ≡ evaluated b → a ≡ b
evaluated-one (Ok c) (Ok d) e = λ i. Ok (record { main = (e i).main; dispersion = (e i).dispersion; marks = (e i).marks })
evaluated-one (Ok c) (Err w) e = absurd (number-some w (sym (ap (λ p. p.number) e)))
evaluated-one (Err v) (Ok d) e = absurd (number-some v (ap (λ p. p.number) e))
evaluated-one (Err v) (Err w) e = ap (λ (y : Refusal). Err y) (number-one v w (ap (λ p. p.number) e))

pub estimated-one : (a b : Result SigmaFigures Refusal) → estimated a ≡ estimated b → a ≡ b
estimated-one (Ok c) (Ok d) e =
    ap₂ (λ (h f : Float). Ok (record { sigma_hat = h; sigma_hat_df = f })) (ap (λ p. p.1) e) (ap (λ p. p.2) e)
estimated-one (Ok c) (Err w) e = absurd (number-some w (sym (ap (λ p. p.0) e)))
estimated-one (Err v) (Ok d) e = absurd (number-some v (ap (λ p. p.0) e))
estimated-one (Err v) (Err w) e = ap (λ (y : Refusal). Err y) (number-one v w (ap (λ p. p.0) e))

pub figured-one : (a b : Result Float Refusal) → figured a ≡ figured b → a ≡ b
figured-one = answered-one tells _ _ (λ x y e. e)

pub limited-one : (a b : Result ChartLimits Refusal) → limited a ≡ limited b → a ≡ b
limited-one (Ok m) (Ok n) e = ap₂ (λ (x y : Limits). Ok (record { main = x; dispersion = y })) (ap (λ p. p.1) e) (ap (λ p. p.2) e)
limited-one (Ok m) (Err w) e = absurd (number-some w (sym (ap (λ p. p.0) e)))
limited-one (Err v) (Ok n) e = absurd (number-some v (ap (λ p. p.0) e))
limited-one (Err v) (Err w) e = ap (λ (y : Refusal). Err y) (number-one v w (ap (λ p. p.0) e))
