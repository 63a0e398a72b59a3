-- `Chart::wrong` meets its contract: the record, then its stored samples. Assumes nothing.
use Rattle.std.proofs.Common.{not, ap}
use borrow.Author.Tests.{not-false}
use Rattle.laws.proofs.Bools.{told, or_yes, or_no}
use Rattle.attributes.specs.Evaluating.{wrong}
use Rattle.attributes.proofs.Held.{held}
use Rattle.attributes.proofs.Chart.wrong.Goals as goal

pub returns-then-record_wrong-clause-is : goal.returns-then-record_wrong-clause-is
unfolding wrong
returns-then-record_wrong-clause-is g c =
    or_yes _ _ (told c.record_wrong.ensures c.if-record_wrong.true)

pub are_right-requires : goal.are_right-requires
are_right-requires g c =
    let h = held _ _ _ _ (told c.record_wrong.ensures c.if-record_wrong.false) in (h.in-counts, h.in-sizes)

pub returns-clause-is : goal.returns-clause-is
unfolding wrong
returns-clause-is g c =
    or_no _ _ _ (told c.record_wrong.ensures c.if-record_wrong.false) (ap not c.are_right.ensures.is)

pub returns-clause-fine : goal.returns-clause-fine
returns-clause-fine g c =
    let h = held _ _ _ _ (told c.record_wrong.ensures c.if-record_wrong.false) in
    λ e. let right = not-false c.are_right.result e in record {
      few = h.few;
      in-counts = h.in-counts;
      in-sizes = h.in-sizes;
      counts-fit = c.are_right.ensures.counts right;
      sizes-fit = c.are_right.ensures.sizes right;
    }
