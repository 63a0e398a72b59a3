-- `sheets::writer::write_marks` meets its contract: the room is measured first, and the entries go behind the head. Assumes nothing.
use Prim.Native.Nat.{ℕ, ◌+◌, ◌≤◌}
use native.Mathlib.Omega.{arith}
use mathlib.Core.Path.{◌≡◌, refl, ap, ◌∙◌}
use mathlib.Core.List.{List}
use borrow.Author.Tests.{le-leb, lt-leb}
use lib.ListN.{length}
use Rattle.laws.specs.Front.{at_front}
use Rattle.laws.proofs.Lending.{second-fills}
use Rattle.sheets.specs.Sheet.{entries_of, sheet_of}
use Rattle.sheets.proofs.Writing.{head_of, sheet-parts, sheet-length, parts-fit}
use Rattle.sheets.proofs.writer.write_marks.Goals.{After-size-3}
use Rattle.sheets.proofs.writer.write_marks.Goals as goal

-- the sheet is as long as it was measured
total : (c : After-size-3)
    → c.size.result + c.size-2.result + c.size-3.result + c.measure-measured.result.len ≡ length (sheet_of c.args.set c.args.marks.now)
total c =
    sheet-length c.args.set c.args.marks.now _ _ c.measure-measured.ensures _ _ _ c.size.ensures.0 c.size-2.ensures.0 c.size-3.ensures.0

pub returns-then-out-head : goal.returns-then-out-head
returns-then-out-head c =
    let sheet = sheet_of c.args.set c.args.marks.now in
    let known = total (goal.at.returns-then-out-head c).After-size-3 in
    let short = lt-leb (length sheet) (length c.args.out.now) (omega (arith, known, c.if-out-head.true)) in
    record { answer = simp short refl; room = simp short refl }

pub returns : goal.returns
returns c =
    let set = c.args.set in
    let marks = c.args.marks.now in
    let out = c.args.out.now in
    let m = c.measure-measured in
    let known = total (goal.at.returns c).After-size-3 in
    let room : length (sheet_of set marks) ≤ length out = omega (arith, known) in
    let holds = le-leb (length (sheet_of set marks)) (length out) room in
    let fits = parts-fit set marks m.result.marked m.result.len m.ensures out room in
    let fills = second-fills (head_of (length marks) set m.result.marked) (entries_of 0 marks) out c.write_head-a.new.out c.write_head-a.result
    fits c.write_head-a.ensures.room c.write_head-a.ensures.count c.write_entries-b.new.out c.write_entries-b.result c.write_entries-b.ensures.room
    c.write_entries-b.ensures.count in
    let parts = sheet-parts set marks m.result.marked m.result.len m.ensures in
    record {
      answer = simp holds (ap (λ (n : ℕ). (0, n)) (fills.0 ∙ ap length parts));
      room = simp holds (fills.1 ∙ ap (λ (l : List ℕ). at_front l out) parts);
    }
