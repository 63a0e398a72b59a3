-- `RuleSet::len` meets its contract: the ones of the mask are counted. Assumes nothing.
use mathlib.Core.Path.{◌≡◌, sym, ap, ◌∙◌}
use Rattle.std.specs.Prelude.{Err}
use Rattle.std.proofs.Common.{rules}
use Rattle.sets.specs.declared.Refusal.TheVariants.{TooLarge}
use Rattle.sets.specs.Calls.{counted, how_many}
use Rattle.sets.proofs.Members.{too_large}
use Rattle.sets.proofs.Masks.{len_is}
use Rattle.sets.proofs.RuleSet.len.Goals as goal

pub returns-in_err-checked : goal.returns-in_err-checked
unfolding how_many
returns-in_err-checked c =
    let told : c.from_residual.result ≡ Err TooLarge = search rules in
    ap counted told ∙ sym (too_large c.args.self.mask _ _ c.in_err-checked.ensures.1)

pub returns : goal.returns
returns c =
    let kept : c.in_ok-checked.field-0 ≡ c.args.self.mask = c.in_ok-checked.ensures.0 in
    rw kept (len_is c.args.self.mask (rw (sym kept) c.in_ok-checked.ensures.1))
