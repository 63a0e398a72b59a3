-- `rules::codes::put` meets its contract: sixteen codes at a time. Assumes nothing.
use mathlib.Core.Path.{◌≡◌}
use mathlib.Core.Bool.{true, false}
use native.Mathlib.Omega.{arith}
use borrow.Author.Rules.{rules}
use Rattle.rules.proofs.Making.{added_none, adding-starts, adding-next, adding-ends}
use Rattle.rules.proofs.Parts.{sixteen-long, sixteen-room}
use Rattle.rules.proofs.codes.put.Goals as goal

pub returns-then-not-need : goal.returns-then-not-need
returns-then-not-need g c =
    let off : c.args.need ≡ false = c.if-not-need.true in rw off (added_none _ _)

pub codes_of-requires : goal.codes_of-requires
codes_of-requires g c =
    sixteen-long _ c.next-e.result c.next-e.ensures.2 c.next-e.ensures.1

pub join-requires : goal.join-requires
join-requires g c =
    sixteen-room c.loop-i.c c.next-e.result c.next-e.ensures.2 (omega (arith, c.next-e.ensures.1, c.loop-i.invariant.room))

pub loop-i-preserved : goal.loop-i-preserved
loop-i-preserved g c =
    let s = c.args in
    adding-next (g.F.Family.code s.family) s.values.now c.loop-i.i c.next-e.result c.next-e.ensures _ _ c.loop-i.invariant (omega arith) _ c.before-in-loop-i.ensures _ _ c.codes_of.ensures
    c.join.ensures (search rules)

pub returns : goal.returns
returns g c =
    let on : c.args.need ≡ true = c.if-not-need.false in
    rw on (adding-ends _ _ _ _ _ c.loop-i.invariant (omega arith))

pub loop-i-init : goal.loop-i-init
loop-i-init g c =
    adding-starts _ _ _

pub loop-i-smaller : goal.loop-i-smaller
loop-i-smaller g c =
    omega (arith, c.next-e.ensures.0)
