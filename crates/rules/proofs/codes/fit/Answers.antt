-- `rules::codes::fit` meets its contract: the marks are masked one after the other. Assumes nothing.
use mathlib.Core.Path.{ap}
use Prim.Native.Nat.{ℕ, ◌+◌}
use native.Mathlib.Omega.{arith}
use lib.Bits.{bit_and}
use Rattle.laws.proofs.Filling.{tabling-starts, tabling-room, tabling-goes-on, tabling-ends}
use Rattle.rules.specs.Codes.{fits_at}
use Rattle.rules.proofs.Making.{tabling-next}
use Rattle.rules.proofs.codes.fit.Goals as goal

pub loop-i-preserved : goal.loop-i-preserved
unfolding fits_at
loop-i-preserved c =
    let t = c.loop-i.invariant in
    let fits = fits_at (c.args.from + c.loop-i.i) in
    tabling-goes-on _ _ _ _ _ t _ c.loop-i-test.true (ap (λ (m : ℕ). bit_and m fits) (tabling-next _ _ _ _ _ t))

pub loop-i-init : goal.loop-i-init
loop-i-init c =
    tabling-starts _ _ _ c.requires.1

pub offset_bounds-out-i : goal.offset_bounds-out-i
offset_bounds-out-i c =
    omega (arith, tabling-room _ _ _ _ _ c.loop-i.invariant c.loop-i-test.true)

pub bounds-out-i : goal.bounds-out-i
bounds-out-i c =
    tabling-room _ _ _ _ _ c.loop-i.invariant c.loop-i-test.true

pub offset_bounds-out-i-in-loop-i : goal.offset_bounds-out-i-in-loop-i
offset_bounds-out-i-in-loop-i c =
    omega (arith, tabling-room _ _ _ _ _ c.loop-i.invariant c.loop-i-test.true)

pub bounds-out-i-in-loop-i : goal.bounds-out-i-in-loop-i
bounds-out-i-in-loop-i c =
    tabling-room _ _ _ _ _ c.loop-i.invariant c.loop-i-test.true

pub returns : goal.returns
returns c =
    tabling-ends _ _ _ _ _ c.loop-i.invariant c.loop-i-test.false
