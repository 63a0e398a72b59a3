-- `twin::mark_in` meets its contract: what is refused before a value is read, then what marking refuses, then the room. Assumes nothing.
use native.Mathlib.Omega.{arith}
use mathlib.Core.Path.{◌≡◌, ap, ◌∙◌}
use borrow.Author.Rules.{rules}
use Rattle.std.specs.Prelude.{Err}
use Rattle.twin.specs.declared.Refusal.TheVariants.{Series}
use Rattle.twin.specs.Steps.{numbered}
use Rattle.twin.proofs.Refusing.{starts, stopped, begins, mark-stops}
use Rattle.twin.proofs.Marking.{mark-refused, mark-short, mark-done}
use Rattle.twin.proofs.mark_in.Goals as goal

pub returns-in_err-read_values : goal.returns-in_err-read_values
returns-in_err-read_values g c =
    let a = c.args in
    let bs = a.values.now in
    let why = c.in_err-read_values.field-0.0 in
    let passed_on : c.from_residual.result ≡ Err why = search rules in
    let early = stopped bs a.set c.read_values.result c.read_values.ensures.answer why c.in_err-read_values.was in
    let all = mark-stops a.limits a.set bs why early a.marks.now in
    record { answer = ap numbered passed_on ∙ all.0; marks = all.1 }

pub overflow_cast-set : goal.overflow_cast-set
overflow_cast-set g c =
    let a = c.args in
    omega (arith, (begins a.values.now a.set c.read_values.result c.read_values.ensures.answer c.in_ok-read_values.was).small)

pub shared_whole_as_front-mark : goal.shared_whole_as_front-mark
shared_whole_as_front-mark g c =
    let a = c.args in
    let began = begins a.values.now a.set c.read_values.result c.read_values.ensures.answer c.in_ok-read_values.was in
    (c.requires.0 began.few, omega (arith, c.requires.1))

pub returns-in_err-mark : goal.returns-in_err-mark
returns-in_err-mark g c =
    let a = c.args in
    let bs = a.values.now in
    let started = starts bs a.set c.read_values.result c.read_values.ensures.answer c.in_ok-read_values.was in
    let why = c.in_err-mark.field-0.0 in
    let passed_on : c.from_residual-in_err-mark.result ≡ Err (Series why) = search rules in
    let all = mark-refused a.limits a.set bs started _ c.read_values.new.vs c.read_values.ensures.room _ c.unstopped.ensures
    g.row.ROOM c.requires.0 c.mark.new.marks c.mark.result c.mark.ensures.answer why c.in_err-mark.was a.marks.now in
    record { answer = ap numbered passed_on ∙ all.0; marks = all.1 }

pub returns-then-marks-n : goal.returns-then-marks-n
returns-then-marks-n g c =
    let a = c.args in
    let bs = a.values.now in
    let started = starts bs a.set c.read_values.result c.read_values.ensures.answer c.in_ok-read_values.was in
    let all = mark-short a.limits a.set bs started _ c.read_values.new.vs c.read_values.ensures.room _ c.unstopped.ensures
    g.row.ROOM c.requires.0 c.mark.new.marks c.mark.result c.mark.ensures.answer c.mark.ensures.marks c.in_ok-mark.was a.marks.now c.if-marks-n.true in
    record { answer = all.0; marks = all.1 }

pub returns : goal.returns
returns g c =
    let a = c.args in
    let bs = a.values.now in
    let started = starts bs a.set c.read_values.result c.read_values.ensures.answer c.in_ok-read_values.was in
    let all = mark-done a.limits a.set bs started _ c.read_values.new.vs c.read_values.ensures.room _ c.unstopped.ensures
    g.row.ROOM c.requires.0 c.mark.new.marks c.mark.result c.mark.ensures.answer c.mark.ensures.marks c.in_ok-mark.was a.marks.now
    c.put_marks.new.out c.if-marks-n.false c.put_marks.ensures in
    record { answer = all.0; marks = all.1 }
