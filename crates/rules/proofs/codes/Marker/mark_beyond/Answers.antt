-- `rules::codes::Marker::mark_beyond` meets its contract. The marks are written one after the other. Assumes nothing.
use native.Mathlib.Omega.{arith}
use Rattle.laws.proofs.Filling.{tabling-starts, tabling-room, tabling-goes-on, tabling-ends}
use Rattle.rules.proofs.Single.{marks-single}
use Rattle.rules.proofs.codes.Marker.mark_beyond.Goals as goal

pub loop-i-preserved : goal.loop-i-preserved
loop-i-preserved c =
    tabling-goes-on _ _ _ _ _ c.loop-i.invariant _ c.loop-i-test.true
    (marks-single c.args.self.lines c.args.self.set c.args.values.now c.loop-i.i c.requires.0)

pub loop-i-init : goal.loop-i-init
loop-i-init c =
    tabling-starts _ _ _ c.requires.1

pub offset_bounds-out-i : goal.offset_bounds-out-i
offset_bounds-out-i c =
    omega (arith, tabling-room _ _ _ _ _ c.loop-i.invariant c.loop-i-test.true)

pub bounds-out-i : goal.bounds-out-i
bounds-out-i c =
    tabling-room _ _ _ _ _ c.loop-i.invariant c.loop-i-test.true

pub returns : goal.returns
returns c =
    tabling-ends _ _ _ _ _ c.loop-i.invariant c.loop-i-test.false
