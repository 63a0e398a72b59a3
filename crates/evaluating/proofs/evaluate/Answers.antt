-- `evaluate` meets its contract: refused ahead of the arithmetic, or as `checked::evaluate` says. Assumes nothing.
use Rattle.std.proofs.Common.{◌≡◌, Bool, length, ◌∙◌, ap₂, rules}
use Rattle.std.specs.Prelude.{Err}
use Rattle.laws.specs.Refusals.{first_of}
use Rattle.rules.specs.Lines.{width_wrong}
use Rattle.charts.proofs.Answers.{number-some}
use Rattle.evaluating.specs.Asked.{Asked, asked, interrupted, in_mode}
use Rattle.evaluating.specs.Evaluating.{positions_wrong, no_room}
use Rattle.evaluating.specs.Steps.{ahead, tested}
use Rattle.evaluating.proofs.Outcomes.{number-ahead, answer-refused, slice-refused}
use Rattle.evaluating.proofs.evaluate.Goals.{After-check}
use Rattle.evaluating.proofs.evaluate.Goals as goal

-- ---- what is asked, and whether a lent slice is too short

abbrev asks : After-check → Asked
asks c = (in_mode (interrupted (asked c.args.chart c.args.values.now) c.args.positions.now) c.args.width)

abbrev short : After-check → Bool
short c = (no_room c.args.chart (length c.args.main.now) (length c.args.dispersion.now) (length c.args.main_marks.now) (length c.args.dispersion_marks.now))

-- what the tests found, by the definition's words for positions that are wrong and a room too short
found : (c : After-check) → (tested c.check.result ≡ first_of (ahead (asks c) (positions_wrong c.args.chart c.args.positions.now) (width_wrong c.args.width) (short c)) 0)
found c =
    c.check.ensures ∙ ap₂ (λ (b d : Bool). first_of (ahead (asks c) b (width_wrong c.args.width) d) 0) c.positions_wrong-wrong.ensures c.no_room-short.ensures

pub returns-in_err-check : goal.returns-in_err-check
returns-in_err-check c =
    let told : c.from_residual.result ≡ Err c.in_err-check.field-0.0 = search rules in
    let is = c.in_err-check.was in
    let here = (goal.at.returns-in_err-check c).After-check in
    let wrong = positions_wrong c.args.chart c.args.positions.now in
    let bad_width = width_wrong c.args.width in
    let all = found here in
    rw told (record {
      answer = answer-refused (asks here) (short here) _ (number-ahead (asks here) wrong bad_width (short here) is all) (number-some _);
      main = slice-refused (asks here) wrong bad_width (short here) is all _ _ _;
      dispersion = slice-refused (asks here) wrong bad_width (short here) is all _ _ _;
      main_marks = slice-refused (asks here) wrong bad_width (short here) is all _ _ _;
      dispersion_marks = slice-refused (asks here) wrong bad_width (short here) is all _ _ _;
    })
