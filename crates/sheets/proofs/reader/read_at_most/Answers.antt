-- `sheets::reader::read_at_most` meets its contract: its tests are those of `at_most`. Assumes nothing.
use mathlib.Core.Path.{◌≡◌, sym, ap, ◌∙◌}
use borrow.Author.Rules.{rules}
use Rattle.std.specs.Prelude.{Err}
use Rattle.groups.specs.declared.Fault.{Fault}
use Rattle.sheets.proofs.Reading.{fault-place, most-none}
use Rattle.sheets.proofs.reader.read_at_most.Goals as goal

pub returns-in_err-number : goal.returns-in_err-number
returns-in_err-number c =
    let args = c.args in
    let was = sym c.read_number.ensures ∙ c.in_err-number.was in
    let passed_on : c.from_residual.result ≡ Err c.in_err-number.field-0.0 = search rules in
    passed_on ∙ ap (λ (p : Fault). Err p) (fault-place args.s.now args.at _ was) ∙ most-none args.most args.at _ _ was
