-- `sheets::checker::check_entries` meets its contract: the form, then points and set, then the marks. Assumes nothing.
use Prim.Native.Nat.{ℕ}
use mathlib.Core.Path.{◌≡◌, ap, ◌∙◌}
use Rattle.sheets.specs.Said.{entries}
use Rattle.sheets.specs.Steps.{behind, tells}
use Rattle.sheets.proofs.Points.{front_long}
use Rattle.sheets.proofs.Judging.{judged-other, judged-same}
use Rattle.sheets.proofs.checker.check_entries.Given.{Over}
use Rattle.sheets.proofs.checker.check_entries.Goals.{In_ok-read_entries, then-stated-right-via-then-stated-right, then-stated-right-via-else-stated-right+then-head-set}
use Rattle.sheets.proofs.checker.check_entries.Goals as goal

-- what the entries say, of as many points as the head has
said_behind : (g : Over) (c : In_ok-read_entries g)
    → tells c.args.head.set c.read_entries.result c.read_entries.new.stated ≡ behind c.args.s.now c.args.head
said_behind g c =
    let head = c.args.head in
    c.read_entries.ensures
    ∙ ap (λ (n : ℕ). entries c.args.s.now head.set head.marked n head.next) (front_long g.row.ROOM head.points c.requires.0)

pub returns-then-stated-right : goal.returns-then-stated-right
returns-then-stated-right g c =
    let a = c.args in
    judged-other a.set a.right.now _ a.head.set _ _ (said_behind g (goal.at.returns-then-stated-right g c).In_ok-read_entries) c.in_ok-read_entries.was
    (λ e. elim c.then-stated-right.branch [
      | then-stated-right-via-then-stated-right w ↦ w.if-stated-right.true e.0
      | then-stated-right-via-else-stated-right+then-head-set w ↦ w.if-head-set.true e.1
    ])

pub returns : goal.returns
returns g c =
    let a = c.args in
    c.first_wrong.ensures
    ∙ judged-same a.set a.right.now _ a.head.set _ _ (said_behind g (goal.at.returns g c).In_ok-read_entries) c.in_ok-read_entries.was
    c.if-stated-right.false c.if-head-set.false
