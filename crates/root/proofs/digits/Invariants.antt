-- `root::digits` meets its contract. The invariant of its loop is `Turn` of `Turns.antt`, and the measure is the unit, which is halved.
-- Assumes nothing.
use Rattle.std.proofs.Common.{◌*◌, ◌^◌}
use Rattle.root.proofs.Turns.{Turn}
use Rattle.root.proofs.digits.Given as goal

abbrev pub invariant-digits : goal.invariant-digits
invariant-digits l =
    Turn (l.a * 2 ^ 54) l.rem l.trial l.unit

abbrev pub decreases-digits : goal.decreases-digits
decreases-digits l =
    l.unit
