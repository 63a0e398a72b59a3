-- `twin::check_in` meets its contract: what is refused before a value is read, then the checker's verdict. Assumes nothing.
use native.Mathlib.Omega.{arith}
use mathlib.Core.Path.{◌≡◌, sym, ap, ◌∙◌}
use borrow.Author.Rules.{rules}
use Rattle.std.specs.Prelude.{Err}
use Rattle.sheets.specs.Answers.{checked as verdict}
use Rattle.twin.specs.declared.Fault.TheVariants.{Sheet}
use Rattle.twin.specs.Answers.{packed}
use Rattle.twin.specs.Steps.{as_fault, checked}
use Rattle.twin.proofs.Refusing.{starts, stopped, begins, check-stops, check-whole}
use Rattle.twin.proofs.check_in.Goals as goal

pub returns-in_err-read_values : goal.returns-in_err-read_values
returns-in_err-read_values g c =
    let a = c.args in
    let bs = a.values.now in
    let why = c.in_err-read_values.field-0.0 in
    let passed_on : c.from_residual.result ≡ Err (as_fault why) = search rules in
    let early = stopped bs a.set c.read_values.result c.read_values.ensures.answer why c.in_err-read_values.was in
    ap (λ r. packed (checked r)) passed_on ∙ check-stops a.limits a.set bs why early a.sheet.now

pub overflow_cast-set : goal.overflow_cast-set
overflow_cast-set g c =
    let a = c.args in
    omega (arith, (begins a.values.now a.set c.read_values.result c.read_values.ensures.answer c.in_ok-read_values.was).small)

pub shared_whole_as_front-check : goal.shared_whole_as_front-check
shared_whole_as_front-check g c =
    let a = c.args in
    let began = begins a.values.now a.set c.read_values.result c.read_values.ensures.answer c.in_ok-read_values.was in
    (c.requires.0 began.few, omega (arith, c.requires.1))

pub returns-in_err-check : goal.returns-in_err-check
returns-in_err-check g c =
    let a = c.args in
    let bs = a.values.now in
    let started = starts bs a.set c.read_values.result c.read_values.ensures.answer c.in_ok-read_values.was in
    let found = c.in_err-check.field-0.0 in
    let passed_on : c.from_residual-in_err-check.result ≡ Err (Sheet found) = search rules in
    ap (λ r. packed (checked r)) passed_on
    ∙ sym (ap (λ r. packed (verdict r)) c.in_err-check.was)
    ∙ check-whole a.limits a.set bs started _ c.read_values.new.vs c.read_values.ensures.room _ c.unstopped.ensures a.sheet.now c.check.ensures

pub returns : goal.returns
returns g c =
    let a = c.args in
    let bs = a.values.now in
    let started = starts bs a.set c.read_values.result c.read_values.ensures.answer c.in_ok-read_values.was in
    sym (ap (λ r. packed (verdict r)) c.in_ok-check.was)
    ∙ check-whole a.limits a.set bs started _ c.read_values.new.vs c.read_values.ensures.room _ c.unstopped.ensures a.sheet.now c.check.ensures
