-- `groups::write_number` meets its contract. `Writes` of proofs/WriteLoop.antt is the loop's invariant. Assumes nothing.
use Prim.Native.Nat.{◌-◌}
use native.Mathlib.Omega.{arith}
use lib.Seq.{length-take-le}
use Rattle.laws.proofs.Rooms.{too_short, fits}
use Rattle.groups.specs.Groups.{groups}
use Rattle.groups.proofs.Strings.{groups-some}
use Rattle.groups.proofs.WriteLoop.{writes-on, last-fits, writes-ends}
use Rattle.groups.proofs.write_number.Goals as goal

pub overflow_sub-last : goal.overflow_sub-last
overflow_sub-last c =
    omega (arith, groups-some c.args.x)

pub returns-then-out-last : goal.returns-then-out-last
returns-then-out-last c =
    let args = c.args in
    let all = too_short (groups args.x) args.out.now (omega (arith, groups-some args.x)) in
    record { answer = all.0; room = all.1 }

pub loop-byte-preserved : goal.loop-byte-preserved
loop-byte-preserved c =
    let k = length-take-le (c.size-last.result - 1) c.args.out.now (omega arith) in
    writes-on c.loop-byte.invariant (omega (arith, groups-some c.args.x)) (omega arith)

pub overflow_cast-out : goal.overflow_cast-out
overflow_cast-out c =
    let k = length-take-le (c.size-last.result - 1) c.args.out.now (omega arith) in
    omega (arith, last-fits c.loop-byte.invariant (omega (arith, groups-some c.args.x)) (omega arith))

pub returns : goal.returns
returns c =
    let args = c.args in
    let k = length-take-le (c.size-last.result - 1) args.out.now (omega arith) in
    let all =
    fits (groups args.x) args.out.now (omega (arith, groups-some args.x)) _ _ (omega (arith, groups-some args.x))
    (writes-ends c.loop-byte.invariant (omega (arith, groups-some args.x)) (omega arith) args.out.now _ (omega arith) (omega arith)) in
    record { answer = all.0; room = all.1 }
