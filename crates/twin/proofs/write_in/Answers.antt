-- `twin::write_in` meets its contract: what is refused before a value is read, then the writer's answer. Assumes nothing.
use native.Mathlib.Omega.{arith}
use mathlib.Core.Path.{◌≡◌, sym, ap, ◌∙◌}
use borrow.Author.Rules.{rules}
use Rattle.std.specs.Prelude.{Err}
use Rattle.sheets.specs.Answers.{written as sent}
use Rattle.twin.specs.declared.Refusal.TheVariants.{Series}
use Rattle.twin.specs.Answers.{packed_length}
use Rattle.twin.specs.Steps.{written}
use Rattle.twin.proofs.Refusing.{starts, stopped, begins, write-stops, write-whole}
use Rattle.twin.proofs.write_in.Goals as goal

pub returns-in_err-read_values : goal.returns-in_err-read_values
returns-in_err-read_values g c =
    let a = c.args in
    let bs = a.values.now in
    let why = c.in_err-read_values.field-0.0 in
    let passed_on : c.from_residual.result ≡ Err why = search rules in
    let early = stopped bs a.set c.read_values.result c.read_values.ensures.answer why c.in_err-read_values.was in
    let all = write-stops a.limits a.set bs why early a.sheet.now in
    record { answer = ap (λ r. packed_length (written r)) passed_on ∙ all.0; room = all.1 }

pub overflow_cast-set : goal.overflow_cast-set
overflow_cast-set g c =
    let a = c.args in
    omega (arith, (begins a.values.now a.set c.read_values.result c.read_values.ensures.answer c.in_ok-read_values.was).small)

pub shared_whole_as_front-write : goal.shared_whole_as_front-write
shared_whole_as_front-write g c =
    let a = c.args in
    let began = begins a.values.now a.set c.read_values.result c.read_values.ensures.answer c.in_ok-read_values.was in
    (c.requires.0 began.few, omega (arith, c.requires.1))

pub returns-in_err-write : goal.returns-in_err-write
returns-in_err-write g c =
    let a = c.args in
    let bs = a.values.now in
    let started = starts bs a.set c.read_values.result c.read_values.ensures.answer c.in_ok-read_values.was in
    let why = c.in_err-write.field-0.0 in
    let passed_on : c.from_residual-in_err-write.result ≡ Err (Series why) = search rules in
    let all = write-whole a.limits a.set bs started _ c.read_values.new.vs c.read_values.ensures.room _ c.unstopped.ensures a.sheet.now c.write.ensures.answer c.write.ensures.room in
    record {
      answer = ap (λ r. packed_length (written r)) passed_on ∙ sym (ap (λ r. packed_length (sent r)) c.in_err-write.was) ∙ all.0;
      room = all.1;
    }

pub returns : goal.returns
returns g c =
    let a = c.args in
    let bs = a.values.now in
    let started = starts bs a.set c.read_values.result c.read_values.ensures.answer c.in_ok-read_values.was in
    let all = write-whole a.limits a.set bs started _ c.read_values.new.vs c.read_values.ensures.room _ c.unstopped.ensures a.sheet.now c.write.ensures.answer c.write.ensures.room in
    record { answer = sym (ap (λ r. packed_length (sent r)) c.in_ok-write.was) ∙ all.0; room = all.1 }
