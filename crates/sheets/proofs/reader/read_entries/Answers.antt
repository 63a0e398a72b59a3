-- `sheets::reader::read_entries` meets its contract: `Onward` from the start is the invariant of its loop. Assumes nothing.
use mathlib.Core.Path.{◌≡◌, ap, ◌∙◌}
use borrow.Author.Rules.{rules}
use Rattle.std.specs.Prelude.{Err}
use Rattle.sheets.specs.Steps.{Onward, tells}
use Rattle.sheets.proofs.Entries.{reach, told-start, onward-on, onward-turn, onward-broken, onward-over, onward-end}
use Rattle.sheets.proofs.reader.read_entries.Goals.{After-read_entry}
use Rattle.sheets.proofs.reader.read_entries.Goals as goal

-- how far the short ways came
came : (c : After-read_entry)
    → Onward c.args.s.now c.args.head.set c.args.stated.now (reach 0 c.args.head.next c.args.head.marked) c.read_long-r.new.stated
    c.read_long-r.result
came c =
    let a = c.args in
    let on = onward-on a.s.now a.head.set a.stated.now (reach 0 a.head.next a.head.marked) in
    on _ _ _ _ (on _ _ _ _ c.loop-r.invariant c.read_pairs-r.ensures) c.read_long-r.ensures

pub returns-in_err-entry : goal.returns-in_err-entry
returns-in_err-entry c =
    let a = c.args in
    let r = c.read_long-r.result in
    let passed_on : c.from_residual.result ≡ Err c.in_err-entry.field-0.0 = search rules in
    ap (λ r. tells a.head.set r c.read_long-r.new.stated) passed_on
    ∙ onward-broken a.s.now a.head.set a.stated.now (reach 0 a.head.next a.head.marked) _ r.point r.at r.left
    (came (goal.at.returns-in_err-entry c).After-read_entry) _ _ c.read_entry.ensures c.in_err-entry.was c.if-r-gt0.true
    ∙ told-start a.s.now a.head.set a.stated.now a.head.next a.head.marked

pub loop-r-preserved-then-r-gt0 : goal.loop-r-preserved-then-r-gt0
loop-r-preserved-then-r-gt0 c =
    let a = c.args in
    let r = c.read_long-r.result in
    onward-turn a.s.now a.head.set a.stated.now (reach 0 a.head.next a.head.marked) _ r.point r.at r.left
    (came (goal.at.loop-r-preserved-then-r-gt0 c).After-read_entry) _ _ _ _ c.read_entry.ensures c.in_ok-entry.was c.if-r-gt0.true

pub returns-then-r-s : goal.returns-then-r-s
returns-then-r-s c =
    let a = c.args in
    let l = c.loop-r in
    onward-over a.s.now a.head.set a.stated.now (reach 0 a.head.next a.head.marked) l.stated l.r.point l.r.at l.r.left l.invariant
    c.loop-r-test.false c.if-r-s.true
    ∙ told-start a.s.now a.head.set a.stated.now a.head.next a.head.marked

pub returns : goal.returns
returns c =
    let a = c.args in
    let l = c.loop-r in
    onward-end a.s.now a.head.set a.stated.now (reach 0 a.head.next a.head.marked) l.stated l.r.point l.r.at l.r.left l.invariant
    c.loop-r-test.false c.if-r-s.false
    ∙ told-start a.s.now a.head.set a.stated.now a.head.next a.head.marked
