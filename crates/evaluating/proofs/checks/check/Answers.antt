-- `checks::check` meets its contract: the stored values lie within those that are lent. Assumes nothing.
use Rattle.std.proofs.Common.{◌*◌, length, length-take, arith}
use Rattle.laws.proofs.Bools.{told}
use Rattle.charts.proofs.Held.{Held, held}
use Rattle.evaluating.proofs.checks.check.Goals.{Else-record_wrong}
use Rattle.evaluating.proofs.checks.check.Goals as goal

held-so : (c : Else-record_wrong) → Held c.args.c (length c.args.values.now)
held-so c =
    held c.args.c (length c.args.values.now) (told c.record_wrong.ensures c.if-record_wrong.false)

pub overflow_mul-end : goal.overflow_mul-end
overflow_mul-end c =
    omega (arith, (held-so (goal.at.overflow_mul-end c).Else-record_wrong).figures.all)

pub slice_bounds-all_finite-end : goal.slice_bounds-all_finite-end
slice_bounds-all_finite-end c =
    omega (arith, length-take (c.args.c.count * c.args.c.size) c.args.values.now, (held-so (goal.at.slice_bounds-all_finite-end c).Else-record_wrong).within)
