-- `arith::range_of` meets its contract: the largest and the smallest are found in one fold. Assumes nothing.
use Rattle.std.proofs.Common.{◌≡◌, rules, length, ap, ◌∙◌, sym, refl, arith, List, [], ◌∷◌}
use lib.Ieee.{Float, nan, sub, binary64, of_bits}
use Rattle.laws.proofs.Folding.{folded}
use Rattle.arith.specs.Arith.{range_of}
use Rattle.arith.proofs.Extremes.{wider, wider-fold}
use Rattle.arith.proofs.range_of.Goals as goal

none : (l : List Float) → length l ≡ 0 → nan ≡ range_of l
unfolding range_of sub
none [] e = refl
none (x ∷ l) e = absurd (omega arith)

pub returns-in_default : goal.returns-in_default
unfolding of_bits
returns-in_default c =
    none c.args.s.now (search rules)

pub returns : goal.returns
unfolding range_of
returns c =
    let rest = c.in-Some.rest.now in
    ap (λ (p : Float × Float). sub binary64 p.0 p.1)
    (folded wider _ _ (λ p v q f' k. search rules) c.iter.result rest c.iter.ensures.rest _ _ c.fold-hi.ensures.ran ∙ wider-fold _ _ rest)
    ∙ ap range_of (sym c.in-Some.ensures.cases.0)
