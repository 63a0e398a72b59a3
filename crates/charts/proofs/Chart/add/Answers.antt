-- `Chart::add` meets its contract: the place of the sample is within bounds, and the sample goes behind the others. Assumes nothing.
use native.Mathlib.Omega.{arith}
use lib.ListN.{length}
use Rattle.laws.proofs.Bools.{told}
use Rattle.charts.proofs.Held.{Held, held}
use Rattle.charts.proofs.Appending.{appended, lent_length}
use Rattle.charts.proofs.Chart.add.Goals.{Else-record_wrong}
use Rattle.charts.proofs.Chart.add.Goals as goal

held-so : (c : Else-record_wrong) → Held c.args.self (length c.args.values.now)
held-so c =
    held c.args.self (length c.args.values.now) (told c.record_wrong.ensures c.if-record_wrong.false)

pub overflow_mul-at : goal.overflow_mul-at
overflow_mul-at c =
    omega (arith, (held-so (goal.at.overflow_mul-at c).Else-record_wrong).figures.all)

pub overflow_add-end : goal.overflow_add-end
overflow_add-end c =
    let figures = (held-so (goal.at.overflow_add-end c).Else-record_wrong).figures in omega (arith, figures.all, figures.most)

pub copy_from_slice-requires : goal.copy_from_slice-requires
copy_from_slice-requires c =
    lent_length c.args.self c.args.values.now c.if-values-end.false c.args.sample.now c.if-sample-self.false

pub returns-clause-values : goal.returns-clause-values
returns-clause-values c =
    let args = c.args in
    appended args.self args.values.now args.sample.now _ c.copy_from_slice.ensures.after c.if-sample-self.false
