-- `marks::mark` meets its contract: marking refuses nothing, and the marks written are counted. Assumes nothing.
use Rattle.std.proofs.Common.{length, length-take, sym, ◌∙◌, arith}
use Rattle.rules.specs.Terms.{told}
use Rattle.rules.proofs.Accepted.{was-accepted, was-done, marks-written}
use Rattle.evaluating.proofs.Counting.{marks-few, front-few, marks-counted}
use Rattle.evaluating.proofs.marks.mark.Goals as goal

pub slice_bounds-count-end : goal.slice_bounds-count-end
slice_bounds-count-end c =
    let s = c.args in
    omega (arith, (was-done (told s.terms) s.set.mask s.points.now (length s.marks.now) c.requires).1, c.mark.auto)

pub slice_bounds-count-end-2 : goal.slice_bounds-count-end-2
slice_bounds-count-end-2 c =
    let s = c.args in
    omega (arith, length-take (length s.points.now) c.mark.new.marks, (was-done (told s.terms) s.set.mask s.points.now (length s.marks.now) c.requires).1, c.mark.auto)

pub count-requires : goal.count-requires
count-requires c =
    let s = c.args in
    let none = (was-done (told s.terms) s.set.mask s.points.now (length s.marks.now) c.requires).0 in
    front-few (length s.points.now) c.mark.new.marks (was-accepted (told s.terms) s.set.mask s.points.now none).few

pub returns : goal.returns
returns c =
    let s = c.args in
    let pre = c.requires in
    let terms = told s.terms in
    let marked = c.mark.ensures.marks in
    let counted = marks-counted terms s.set.mask s.points.now s.marks.now pre marked c.count.ensures in
    let none = (was-done terms s.set.mask s.points.now (length s.marks.now) pre).0 in record {
      number = counted;
      few = omega (arith, counted, marks-few terms s.set.mask s.points.now (was-accepted terms s.set.mask s.points.now none).few);
      marks = marked ∙ sym (marks-written terms s.set.mask s.points.now s.marks.now pre);
    }
