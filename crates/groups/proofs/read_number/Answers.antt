-- `groups::read_number` meets its contract. `Reads` of proofs/ReadLoop.antt is the loop's invariant. Assumes nothing.
use Prim.Native.Nat.{◌*◌}
use mathlib.Core.Path.{◌≡◌, sym, ap, ◌∙◌}
use Rattle.std.proofs.lemmas.Result.{err_from_is_err_and}
use Rattle.std.specs.Prelude.{Err}
use lib.ListN.{drop_of_length-le}
use Rattle.groups.specs.Groups.{front, read_as, number_at}
use Rattle.groups.proofs.ReadLoop.{reads-ends, reads-padding, reads-last, reads_on, reads-tenth, reads_over, past-the-end, there-is}
use Rattle.groups.proofs.read_number.Goals as goal
use Rattle.groups.proofs.read_number.Goals.{else-b-eq0-via-then-b-eq0+else-shift-ne0, else-b-eq0-via-else-b-eq0}

-- past the end of the bytes no number stands
pub returns-in_err-rest : goal.returns-in_err-rest
unfolding number_at front
returns-in_err-rest c =
    let a = c.args in
    let p = err_from_is_err_and c.from_residual.result c.from_residual.ensures.1 in
    let past = past-the-end a.s.now a.at c.get.result _ _ c.get.ensures.lookup (sym c.ok_or.ensures.value ∙ c.in_err-rest.was) in
    rw (p.1, p.2) (ap Err (sym past.1) ∙ sym (ap (λ l. read_as a.at (front l)) (drop_of_length-le a.s.now past.0)))

pub returns-then-b-eq1 : goal.returns-then-b-eq1
returns-then-b-eq1 c =
    let l = c.loop-n in
    let b = c.from-b in
    reads-tenth l.invariant c.args.at b.result b.ensures c.loop-n-test.true c.if-shift-eq63.true c.if-b-eq1.true
    ∙ there-is c.args.s.now c.args.at c.get.result _ _ c.get.ensures.lookup (sym c.ok_or.ensures.value ∙ c.in_ok-rest.was)

pub returns-then-shift-eq63 : goal.returns-then-shift-eq63
returns-then-shift-eq63 c =
    let l = c.loop-n in
    let b = c.from-b in
    reads_over l.invariant c.args.at b.result b.ensures c.loop-n-test.true c.if-shift-eq63.true c.if-b-eq1.false
    ∙ there-is c.args.s.now c.args.at c.get.result _ _ c.get.ensures.lookup (sym c.ok_or.ensures.value ∙ c.in_ok-rest.was)

pub returns-then-shift-ne0 : goal.returns-then-shift-ne0
returns-then-shift-ne0 c =
    let l = c.loop-n in
    let b = c.from-b in
    reads-padding l.invariant c.args.at b.result b.ensures c.loop-n-test.true c.if-b-eq0.true c.if-shift-ne0.true
    ∙ there-is c.args.s.now c.args.at c.get.result _ _ c.get.ensures.lookup (sym c.ok_or.ensures.value ∙ c.in_ok-rest.was)

pub returns-then-b-lt128 : goal.returns-then-b-lt128
returns-then-b-lt128 c =
    let l = c.loop-n in
    let b = c.from-b in
    let only : b.result ≡ 0 → 7 * l.n ≡ 0 =
    λ z. elim c.else-b-eq0.branch [
      | else-b-eq0-via-then-b-eq0+else-shift-ne0 w ↦ w.if-shift-ne0.false
      | else-b-eq0-via-else-b-eq0 w ↦ absurd (w.if-b-eq0.false z)
    ] in
    reads-last l.invariant c.args.at b.result b.ensures c.loop-n-test.true c.if-shift-eq63.false c.if-b-lt128.true only
    ∙ there-is c.args.s.now c.args.at c.get.result _ _ c.get.ensures.lookup (sym c.ok_or.ensures.value ∙ c.in_ok-rest.was)

pub loop-n-preserved : goal.loop-n-preserved
loop-n-preserved c =
    let b = c.from-b in
    reads_on c.loop-n.invariant c.args.at b.result b.ensures c.loop-n-test.true c.if-shift-eq63.false c.if-b-lt128.false

pub returns : goal.returns
returns c =
    reads-ends c.loop-n.invariant c.args.at c.loop-n-test.false
    ∙ there-is c.args.s.now c.args.at c.get.result _ _ c.get.ensures.lookup (sym c.ok_or.ensures.value ∙ c.in_ok-rest.was)
