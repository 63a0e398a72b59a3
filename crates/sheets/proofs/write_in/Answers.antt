-- `sheets::write_in` meets its contract: marking refuses first, and else its marks are the right ones. Assumes nothing.
use Prim.Native.Nat.{ℕ}
use native.Mathlib.Omega.{arith}
use mathlib.Core.Path.{◌≡◌, ap, ◌∙◌}
use mathlib.Core.List.{List}
use lib.ListN.{length}
use borrow.Author.Rules.{rules}
use Rattle.std.specs.Prelude.{Err}
use Rattle.laws.specs.Front.{at_front_if_room, room_for}
use Rattle.rules.specs.Terms.{told}
use Rattle.sheets.specs.Sheet.{sheet_of}
use Rattle.sheets.specs.Answers.{written, series_sheet}
use Rattle.sheets.proofs.Judging.{write_done, room-done, write-refused, room-refused}
use Rattle.sheets.proofs.Marking.{marked-right, marked-fits, refused-as, was-refused}
use Rattle.sheets.proofs.write_in.Goals as goal

pub returns-in_err-mark : goal.returns-in_err-mark
returns-in_err-mark g c =
    let a = c.args in
    let terms = told a.terms in
    let why = c.in_err-mark.field-0.0 in
    let passed_on : c.from_residual.result ≡ Err why = search rules in
    let is = refused-as terms a.set.mask a.values.now g.row.ROOM c.requires.0 c.mark.new.marks c.mark.result c.mark.ensures.answer why c.in_err-mark.was in
    let some = was-refused terms a.set.mask a.values.now g.row.ROOM c.requires.0 c.mark.new.marks c.mark.result c.mark.ensures.answer why c.in_err-mark.was in
    record {
      answer = ap written passed_on ∙ ap (λ (n : ℕ). (n, 0)) is ∙ write-refused terms a.set.mask a.values.now some (length a.out.now);
      room = room-refused terms a.set.mask a.values.now some a.out.now;
    }

pub shared_whole_as_front-write_marks : goal.shared_whole_as_front-write_marks
shared_whole_as_front-write_marks g c =
    let a = c.args in (
      marked-fits (told a.terms) a.set.mask a.values.now g.row.ROOM c.requires.0 c.mark.new.marks c.mark.result c.mark.ensures.answer c.mark.ensures.marks c.in_ok-mark.was,
      omega (arith, c.requires.1),
    )

pub returns : goal.returns
unfolding series_sheet
returns g c =
    let a = c.args in
    let terms = told a.terms in
    let out = a.out.now in
    let all = marked-right terms a.set.mask a.values.now g.row.ROOM c.requires.0 c.mark.new.marks c.mark.result c.mark.ensures.answer c.mark.ensures.marks c.in_ok-mark.was in
    record {
      answer =
          c.write_marks.ensures.answer
          ∙ ap (λ (ms : List ℕ). room_for (sheet_of a.set.mask ms) (length out)) all.front
          ∙ write_done terms a.set.mask a.values.now all.none (length out);
      room =
          c.write_marks.ensures.room
          ∙ ap (λ (ms : List ℕ). at_front_if_room (sheet_of a.set.mask ms) out) all.front
          ∙ room-done terms a.set.mask a.values.now all.none out;
    }
