-- `plots::answer` meets its contract: each way in its turn. Assumes nothing.
use Rattle.std.proofs.Common.{◌≡◌, ℕ, refl, sym, ap}
use Rattle.std.proofs.lemmas.Result.{err_from_is_err_and}
use Rattle.std.specs.Prelude.{Result}
use lib.Ieee.{Float}
use Rattle.floats.specs.Values.{plus_zero}
use Rattle.points.specs.declared.Refusal.{Refusal}
use Rattle.points.specs.declared.Refusal.TheVariants.{TooShort, Overflow}
use Rattle.points.specs.Plotting.{number, plotted}
use Rattle.attributes.specs.Evaluating.{answer_for}
use Rattle.attributes.proofs.plots.answer.Goals as goal

refused-for : (why : Refusal) (cl : Float) → ◌≡◌ {A = ℕ × Float} (number why, plus_zero) (answer_for (number why) cl)
refused-for TooShort cl = refl
refused-for Overflow cl = refl

pub returns-in_err-went : goal.returns-in_err-went
returns-in_err-went c =
    let p = err_from_is_err_and c.from_residual.result c.from_residual.ensures.1 in
    rw (p.1, p.2, c.in_err-went.was) (refused-for _ c.args.cl)

pub returns : goal.returns
returns c =
    sym (ap (λ (w : Result (Unit {0}) Refusal). answer_for (plotted w) c.args.cl) c.in_ok-went.was)
