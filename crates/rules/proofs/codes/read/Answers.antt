-- `rules::codes::read` meets its contract: the marks are written one after the other. Assumes nothing.
use native.Mathlib.Omega.{arith}
use Rattle.laws.proofs.Filling.{tabling-starts, tabling-room, tabling-ends}
use Rattle.rules.proofs.Marks.{reads_on}
use Rattle.rules.proofs.codes.read.Goals as goal

pub loop-i-init : goal.loop-i-init
loop-i-init g c =
    tabling-starts _ _ _ c.requires.1

pub offset_bounds-out-i : goal.offset_bounds-out-i
offset_bounds-out-i g c =
    omega (arith, tabling-room _ _ _ _ _ c.loop-i.invariant c.loop-i-test.true)

pub bounds-out-i : goal.bounds-out-i
bounds-out-i g c =
    tabling-room _ _ _ _ _ c.loop-i.invariant c.loop-i-test.true

pub loop-i-preserved : goal.loop-i-preserved
loop-i-preserved g c =
    reads_on _ _ _ _ _ _ c.loop-i.invariant c.loop-i-test.true _ c.standing_at.ensures

pub returns : goal.returns
returns g c =
    tabling-ends _ _ _ _ _ c.loop-i.invariant c.loop-i-test.false
