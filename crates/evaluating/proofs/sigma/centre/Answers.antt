-- `sigma::centre` meets its contract: refused ahead of the arithmetic, or for a point or limit, or the centre line. Assumes nothing.
use Rattle.std.proofs.Common.{◌≡◌, false, sym, ap, ◌∙◌, rules}
use Rattle.std.specs.Prelude.{Err}
use Rattle.laws.specs.Refusals.{first_of}
use Rattle.charts.specs.Records.{number}
use Rattle.evaluating.specs.declared.ChartLimits.{ChartLimits}
use Rattle.evaluating.specs.Asked.{asked}
use Rattle.evaluating.specs.Series.{by_series}
use Rattle.evaluating.specs.Limits.{dispersion_limits, limits_of}
use Rattle.evaluating.specs.Sigma.{figured, sigma_number}
use Rattle.evaluating.specs.Steps.{ahead}
use Rattle.evaluating.proofs.Outcomes.{were-ahead, number-ahead, number-7, number-0}
use Rattle.evaluating.proofs.Measures.{wild, right}
use Rattle.evaluating.proofs.Figures.{figure-refused, figure-done}
use Rattle.evaluating.proofs.sigma.centre.Goals.{In_ok-check}
use Rattle.evaluating.proofs.sigma.centre.Goals as goal

passed-tests : (c : In_ok-check) → first_of (ahead (asked c.args.c c.args.values.now) false false false) 0 ≡ 0
passed-tests c =
    sym c.in_ok-check.ensures

pub invariant_of-held : goal.invariant_of-held
invariant_of-held c =
    record { held = (were-ahead (asked c.args.c c.args.values.now) false false false (passed-tests (goal.at.invariant_of-held c).In_ok-check)).right }

pub returns-in_err-check : goal.returns-in_err-check
unfolding sigma_number
returns-in_err-check c =
    let told : c.from_residual.result ≡ Err c.in_err-check.field-0.0 = search rules in
    ap figured told ∙ figure-refused _ c.in_err-check.field-0.0 (number-ahead (asked c.args.c c.args.values.now) false false false c.in_err-check.was c.check.ensures) _

pub returns-in_err-limits : goal.returns-in_err-limits
unfolding sigma_number
returns-in_err-limits c =
    let told : c.from_residual-in_err-limits.result ≡ Err c.in_err-limits.field-0.0 = search rules in
    let why = wild (asked c.args.c c.args.values.now) c.in_err-limits.ensures in
    ap figured told
    ∙ figure-refused _ c.in_err-limits.field-0.0
    (number-7 _ _ _ _ (passed-tests (goal.at.returns-in_err-limits c).In_ok-check) why.0 ∙ sym (ap number why.1)) _

pub returns : goal.returns
unfolding sigma_number limits_of by_series dispersion_limits
returns c =
    let limits = right (asked c.args.c c.args.values.now) c.in_ok-limits.ensures in
    figure-done _ (number-0 _ _ _ _ (passed-tests (goal.at.returns c).In_ok-check) limits.0)
    (ap (λ (l : ChartLimits). l.dispersion.cl) limits.1)
