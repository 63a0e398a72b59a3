-- `sheets::reader::read_entry` meets its contract: its tests are those of `entries`, in the same order. Assumes nothing.
use mathlib.Core.Path.{◌≡◌, sym, ap, ◌∙◌, subst}
use borrow.Author.Rules.{rules}
use Rattle.std.specs.Prelude.{Err}
use Rattle.groups.specs.declared.Fault.{Fault}
use Rattle.sheets.specs.Steps.{FirstEntry}
use Rattle.sheets.proofs.Reading.{fault-place, skip-none, skip-past, marks-none, marks-zero, marks-outside, marks-inside}
use Rattle.sheets.proofs.reader.read_entry.Goals as goal

pub returns-in_err-skip : goal.returns-in_err-skip
returns-in_err-skip c =
    let args = c.args in
    let was = sym c.read_number.ensures ∙ c.in_err-skip.was in
    let passed_on : c.from_residual.result ≡ Err c.in_err-skip.field-0.0 = search rules in
    let there = passed_on ∙ ap (λ (p : Fault). Err p) (fault-place args.s.now args.at _ was) in
    subst (FirstEntry args.s.now args.set args.left args.at) (sym there) (skip-none args.s.now args.set args.left args.at _ was)

pub returns-then-skip-left : goal.returns-then-skip-left
returns-then-skip-left c =
    let args = c.args in
    skip-past args.s.now args.set args.left args.at _ _ (sym c.read_number.ensures ∙ c.in_ok-skip.was) c.if-skip-left.true

pub returns-in_err-marks : goal.returns-in_err-marks
returns-in_err-marks c =
    let args = c.args in
    let was = sym c.read_number-2.ensures ∙ c.in_err-marks.was in
    let passed_on : c.from_residual-in_err-marks.result ≡ Err c.in_err-marks.field-0.0 = search rules in
    let there = passed_on ∙ ap (λ (p : Fault). Err p) (fault-place args.s.now _ _ was) in
    subst (FirstEntry args.s.now args.set args.left args.at) (sym there)
    (marks-none args.s.now args.set args.left args.at _ _ (sym c.read_number.ensures ∙ c.in_ok-skip.was) c.if-skip-left.false _ was)

pub returns-then-marks-eq0 : goal.returns-then-marks-eq0
returns-then-marks-eq0 c =
    let args = c.args in
    marks-zero args.s.now args.set args.left args.at _ _ (sym c.read_number.ensures ∙ c.in_ok-skip.was) c.if-skip-left.false
    _ _ (sym c.read_number-2.ensures ∙ c.in_ok-marks.was) c.if-marks-eq0.true

pub returns-then-marks-from : goal.returns-then-marks-from
returns-then-marks-from c =
    let args = c.args in
    marks-outside args.s.now args.set args.left args.at _ _ (sym c.read_number.ensures ∙ c.in_ok-skip.was) c.if-skip-left.false
    _ _ (sym c.read_number-2.ensures ∙ c.in_ok-marks.was) c.if-marks-eq0.false (rw c.from.ensures at c.if-marks-from.true)

pub returns : goal.returns
returns c =
    let args = c.args in
    marks-inside args.s.now args.set args.left args.at _ _ (sym c.read_number.ensures ∙ c.in_ok-skip.was) c.if-skip-left.false
    _ _ (sym c.read_number-2.ensures ∙ c.in_ok-marks.was) c.if-marks-eq0.false (rw c.from.ensures at c.if-marks-from.false)
