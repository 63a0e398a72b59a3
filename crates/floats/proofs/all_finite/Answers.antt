-- `floats::all_finite` meets its contract: what was seen and the value at hand give what is seen. Assumes nothing.
use mathlib.Core.Path.{◌∙◌}
use mathlib.Core.Bool.{Bool, true, ◌&&◌}
use lib.Ieee.{Float}
use borrow.Author.Rules.{rules}
use Rattle.std.proofs.Common.{arith, take_all}
use Rattle.std.proofs.lemmas.Grind.{common_steps}
use Rattle.laws.proofs.Folding.{folded}
use Rattle.floats.specs.Finite.{finite}
use Rattle.floats.proofs.AllFinite.{all_finite-fold}
use Rattle.floats.proofs.all_finite.Goals as goal

pub returns : goal.returns
returns c =
    folded (λ (all : Bool) (v : Float). all && finite v) _ _ (λ all v b f' k. search rules) c.iter.result c.args.values.now (grind (arith, common_steps, take_all)) true _ c.fold.ensures.ran
    ∙ all_finite-fold true c.args.values.now
