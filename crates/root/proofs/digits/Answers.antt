-- `root::digits` meets its contract. The invariant of its loop is `Turn` of `Turns.antt`, and the measure is the unit, which is halved.
-- Assumes nothing.
use Rattle.std.proofs.Common.{◌*◌, ◌^◌, ◌<◌, mod-eq_of_lt, arith}
use Rattle.root.proofs.Turns.{start, again, ended}
use Rattle.root.proofs.digits.Goals as goal

pub digits-init : goal.digits-init
digits-init c =
    let fits : c.args.a * 4 < 2 ^ 64 = omega (arith, c.requires.1) in
    rw (mod-eq_of_lt fits) (start c.args.a c.requires.0 c.requires.1)

pub returns-then-unit-eq0 : goal.returns-then-unit-eq0
returns-then-unit-eq0 c =
    ended c.digits.invariant _ (omega arith) (omega (arith, c.from-taken.ensures, c.from-taken.type_inv)) (omega arith)

pub digits-preserved : goal.digits-preserved
digits-preserved c =
    again c.digits.invariant _ (omega arith) (omega (arith, c.from-taken.ensures, c.from-taken.type_inv)) (omega arith)
