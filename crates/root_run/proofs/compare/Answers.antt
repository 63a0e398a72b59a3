-- `root_run::compare` counts the pairs that differ, one after the other.
use Rattle.std.proofs.Common.{◌≡◌, ◌+◌, ◌-◌, ◌*◌, ◌∙◌, ◌==◌, ℕ, List, take, drop, length, cond, arith, rules, refl, ap, add-one, length-drop}
use Rattle.std.proofs.lemmas.List.{drop-drop, take_all}
use Rattle.std.proofs.lemmas.Grind.{common_steps}
use Rattle.std.specs.Float.{binary64}
use Rattle.std.specs.Float.Ieee.{of_bits}
use Rattle.root.specs.Root.{root_of}
use Rattle.root_run.specs.Pairs.{stored, number_of, root_beside, differing}
use Rattle.root_run.proofs.compare.Goals as goal
use Rattle.root_run.proofs.compare.Goals.{then-answer-root, else-answer-root}

-- one pair on: what is left then
left : (file rest : List ℕ) (k : ℕ) → rest ≡ drop (16 * k) file → take (length rest - 16) (drop 16 rest) ≡ drop (16 * (k + 1)) file
left file rest k e =
    take_all (length rest - 16) (drop 16 rest) (omega (arith, length-drop 16 rest)) ∙ ap (drop 16) e ∙ drop-drop 16 (16 * k) file
    ∙ ap (λ (n : ℕ). drop n file) (omega arith)

-- one pair more: what it holds, and our own answer
more : (file rest : List ℕ) (k x root answer : ℕ) → rest ≡ drop (16 * k) file → x ≡ number_of rest → root ≡ root_beside rest
    → answer ≡ stored (root_of (of_bits binary64 x)) → differing file (k + 1) ≡ differing file k + cond (answer == root) 0 1
unfolding differing
more file rest k x root answer e ex er ea = rw (add-one, ea, ex, er, e) refl

pub loop-x-init : goal.loop-x-init
unfolding differing
loop-x-init c = search rules

pub loop-x-preserved : goal.loop-x-preserved
loop-x-preserved c =
    let file = c.args.file.now in
    let rest = c.loop-x.rest.now in
    let k = c.loop-x.pairs in
    let pair = c.in-Some.ensures in
    let counted = more file rest k c.in-Some.x c.in-Some.root c.answer.result c.loop-x.invariant.left pair.1 pair.2 c.answer.ensures in record {
      passed = grind (arith, common_steps);
      left = left file rest k c.loop-x.invariant.left;
      some = elim c.if-answer-root.branch [ then-answer-root w ↦ omega arith | else-answer-root w ↦ omega arith ];
      right = elim c.if-answer-root.branch [ then-answer-root w ↦ grind (arith, common_steps) | else-answer-root w ↦ grind (arith, common_steps) ];
    }
