-- `sheets::check_in` meets its contract: marking refuses first, and else its marks are the right ones. Assumes nothing.
use Prim.Native.Nat.{ℕ}
use native.Mathlib.Omega.{arith}
use mathlib.Core.Path.{◌≡◌, ap, ◌∙◌}
use mathlib.Core.List.{List}
use borrow.Author.Rules.{rules}
use Rattle.std.specs.Prelude.{Err}
use Rattle.rules.specs.Terms.{told}
use Rattle.sheets.specs.declared.Fault.TheVariants.{Refused}
use Rattle.sheets.specs.Said.{said}
use Rattle.sheets.specs.Answers.{plain, checked, judged}
use Rattle.sheets.proofs.Judging.{check_done, check-refused}
use Rattle.sheets.proofs.Marking.{marked-right, marked-fits, refused-as, was-refused}
use Rattle.sheets.proofs.check_in.Goals as goal

pub returns-in_err-mark : goal.returns-in_err-mark
returns-in_err-mark g c =
    let a = c.args in
    let terms = told a.terms in
    let why = c.in_err-mark.field-0.0 in
    let passed_on : c.from_residual.result ≡ Err (Refused why) = search rules in
    let is = refused-as terms a.set.mask a.values.now g.row.ROOM c.requires.0 c.mark.new.marks c.mark.result c.mark.ensures.answer why c.in_err-mark.was in
    let some = was-refused terms a.set.mask a.values.now g.row.ROOM c.requires.0 c.mark.new.marks c.mark.result c.mark.ensures.answer why c.in_err-mark.was in
    ap checked passed_on ∙ ap plain is ∙ check-refused terms a.set.mask a.values.now some a.sheet.now

pub shared_whole_as_front-check_marks : goal.shared_whole_as_front-check_marks
shared_whole_as_front-check_marks g c =
    let a = c.args in (
      marked-fits (told a.terms) a.set.mask a.values.now g.row.ROOM c.requires.0 c.mark.new.marks c.mark.result c.mark.ensures.answer c.mark.ensures.marks c.in_ok-mark.was,
      omega (arith, c.requires.1),
    )

pub returns : goal.returns
returns g c =
    let a = c.args in
    let terms = told a.terms in
    let all = marked-right terms a.set.mask a.values.now g.row.ROOM c.requires.0 c.mark.new.marks c.mark.result c.mark.ensures.answer c.mark.ensures.marks c.in_ok-mark.was in
    c.check_marks.ensures
    ∙ ap (λ (ms : List ℕ). judged a.set.mask ms (said a.sheet.now)) all.front
    ∙ check_done terms a.set.mask a.values.now all.none a.sheet.now
