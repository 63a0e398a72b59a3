-- `rules::codes::Marker::mark_many` meets its contract: each block brings the next marks. Assumes nothing.
use mathlib.Core.Path.{◌≡◌, ap, ◌∙◌}
use Prim.Native.Nat.{◌+◌, ◌-◌, ◌≤◌}
use native.Mathlib.Omega.{arith}
use lib.ListN.{length}
use Rattle.laws.proofs.Filling.{tabling-starts, tabling-ends}
use Rattle.stops.specs.Cuts.{unbroken}
use Rattle.rules.specs.Marking.{marks_at}
use Rattle.rules.proofs.Blocks.{marks-part, goes_back}
use Rattle.rules.proofs.Making.{clear-zeros}
use Rattle.rules.proofs.Parts.{part-long, part-start, part_room, part-fills}
use Rattle.rules.proofs.codes.Marker.mark_many.Goals as goal

pub block-requires : goal.block-requires
block-requires c =
    let some : c.loop-at.at + c.min.result ≤ length c.args.values.now = omega arith in
    let long = part-long c.args.values.now (c.loop-at.at - c.min-p.result) (c.loop-at.at + c.min.result) some in (
      omega arith,
      omega (arith, long),
      omega (arith, long),
      omega (arith, long, part_room _ _ _ _ _ c.loop-at.invariant c.min.result some),
      omega arith,
      clear-zeros 512,
    )

pub loop-at-preserved : goal.loop-at-preserved
loop-at-preserved c =
    let s = c.args in
    let some : c.loop-at.at + c.min.result ≤ length s.values.now = omega arith in
    let start = c.loop-at.at - c.min-p.result in
    let long = part-long s.values.now start (c.loop-at.at + c.min.result) some in
    part-fills _ _ _ _ _ c.loop-at.invariant c.min.result some _
    (λ j h. let here : start + (c.min-p.result + j) ≡ c.loop-at.at + j = omega arith in
    marks-part s.self.lines s.self.set s.values.now start (c.loop-at.at + c.min.result - start) (c.min-p.result + j) (omega arith)
    (λ q. goes_back c.loop-at.at c.min-p.result (λ i h k. omega arith) (omega arith))
    ∙ ap (marks_at unbroken s.self.lines s.self.set s.values.now) here)
    _ _ (omega (arith, long)) c.block.ensures

pub loop-at-init : goal.loop-at-init
loop-at-init c =
    tabling-starts _ _ _ c.requires

pub slice_bounds-block-count-in-loop-at : goal.slice_bounds-block-count-in-loop-at
slice_bounds-block-count-in-loop-at c =
    omega (arith, part-start _ _ _ _ _ c.loop-at.invariant 0 (omega arith))

pub slice_bounds-block-start-in-loop-at : goal.slice_bounds-block-start-in-loop-at
slice_bounds-block-start-in-loop-at c =
    part-start _ _ _ _ _ c.loop-at.invariant 0 (omega arith)

pub returns : goal.returns
returns c =
    tabling-ends _ _ _ _ _ c.loop-at.invariant (omega arith)
