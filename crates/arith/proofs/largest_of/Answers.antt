-- `arith::largest_of` meets its contract: the first value is replaced by turns by the larger of two. Assumes nothing.
use Rattle.std.proofs.Common.{rules, ap, ◌∙◌}
use Rattle.std.specs.Option.{unwrap_or}
use Rattle.std.proofs.lemmas.Iterator.{YieldsList-from_slice}
use Rattle.std.proofs.lemmas.Iterator.Consumers.{YieldsList-from_copied}
use lib.Ieee.{nan, of_bits}
use Rattle.laws.proofs.Folding.{reduced}
use Rattle.arith.specs.Arith.{larger}
use Rattle.arith.proofs.Extremes.{from-first}
use Rattle.arith.proofs.largest_of.Goals as goal

pub returns : goal.returns
unfolding of_bits
returns c =
    let s = c.args.s.now in
    c.unwrap_or.ensures
    ∙ ap (λ o. unwrap_or o nan) (reduced larger _ _ (λ t v b f' k. search rules) c.copied.result (YieldsList-from_copied (YieldsList-from_slice s cc)) _ c.reduce.ensures.ran)
    ∙ from-first larger s
