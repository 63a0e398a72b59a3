-- `estimate` meets its contract: refused as the centre line was, or from it and from the record. Assumes nothing.
use Rattle.std.proofs.Common.{◌≡◌, ℕ, false, length, ap, ◌∙◌, ap₂, rules}
use Rattle.std.specs.Prelude.{Err}
use lib.Ieee.{Float}
use Rattle.charts.specs.Records.{own_wrong}
use Rattle.charts.proofs.Held.{own_of}
use Rattle.evaluating.specs.Asked.{asked}
use Rattle.evaluating.specs.Sigma.{estimated, sigma_number, unless_refused, sigma_from, sigma_hat_of, sigma_hat_df_of, estimate_of}
use Rattle.evaluating.proofs.Figures.{figure-refused, figure-done, was-refused, was-done, value-done, record-right}
use Rattle.evaluating.proofs.estimate.Goals.{In_ok-mean}
use Rattle.evaluating.proofs.estimate.Goals as goal

-- ---- where there is a centre line

accepted : (c : In_ok-mean) → sigma_number (asked c.args.chart c.args.values.now) ≡ 0
accepted c =
    was-done _ _ c.centre.ensures c.in_ok-mean.was

right : (c : In_ok-mean) → own_wrong c.args.chart ≡ false
right c =
    own_of c.args.chart (length c.args.values.now) (record-right (asked c.args.chart c.args.values.now) (accepted c))

pub invariant_of-right : goal.invariant_of-right
invariant_of-right c =
    record { own = right (goal.at.invariant_of-right c).In_ok-mean }

pub returns-in_err-mean : goal.returns-in_err-mean
unfolding estimate_of sigma_hat_of sigma_hat_df_of unless_refused
returns-in_err-mean c =
    let told : c.from_residual.result ≡ Err c.in_err-mean.field-0.0 = search rules in
    let refused = figure-refused _ c.in_err-mean.field-0.0 (was-refused _ _ c.centre.ensures c.in_err-mean.was) in
    ap estimated told ∙ ap₂ (λ (p q : ℕ × Float). (p.0, p.1, q.1)) (refused _) (refused _)

pub returns : goal.returns
unfolding estimate_of sigma_hat_of sigma_hat_df_of unless_refused
returns c =
    let chart = c.args.chart in
    let is = value-done _ _ c.centre.ensures c.in_ok-mean.was in
    let none = accepted (goal.at.returns c).In_ok-mean in
    ap₂ (λ (p q : ℕ × Float). (p.0, p.1, q.1)) (figure-done _ none (c.sigma_from.ensures ∙ ap (sigma_from chart) is))
    (figure-done _ none c.df_of.ensures)
