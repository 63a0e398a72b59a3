-- `root::place` meets its contract: each arm is a law of `Steps.antt`. Assumes nothing.
use Rattle.std.proofs.Common.{◌≡◌, ◌/◌, ◌^◌, ◌<◌, ◌≤◌, arith}
use Rattle.root.proofs.Steps.{count, count-in, places-subnormal, places-normal}
use Rattle.root.proofs.place.Goals.{Then-field-eq0}
use Rattle.root.proofs.place.Goals as goal

-- the exponent's field of a subnormal is 0
low : (c : Then-field-eq0) → c.args.b / 2 ^ 52 ≡ 0
low c =
    omega (arith, c.if-field-eq0.true, c.requires.1)

zeros : (c : Then-field-eq0) → (11 ≤ count c.args.b) × (count c.args.b < 64)
zeros c =
    count-in c.args.b c.requires.0 (low c)

pub overflow_sub-up : goal.overflow_sub-up
overflow_sub-up c =
    omega (arith, zeros c)

pub returns-then-field-eq0 : goal.returns-then-field-eq0
returns-then-field-eq0 c =
    rw c.from.ensures (places-subnormal c.args.b c.requires.0 (low (goal.at.returns-then-field-eq0 c).Then-field-eq0))

pub returns-else-field-eq0 : goal.returns-else-field-eq0
returns-else-field-eq0 c =
    places-normal c.args.b (omega (arith, c.if-field-eq0.false)) c.requires.1
