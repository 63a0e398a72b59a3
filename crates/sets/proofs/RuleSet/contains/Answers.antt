-- `RuleSet::contains` meets its contract: the test's mask is tried by and. Assumes nothing.
use mathlib.Core.Path.{◌≡◌, sym, ap, ◌∙◌}
use Rattle.std.specs.Prelude.{Err}
use Rattle.std.proofs.Common.{rules}
use Rattle.sets.specs.declared.Refusal.TheVariants.{TooLarge}
use Rattle.sets.specs.Calls.{contained, has_test}
use Rattle.sets.proofs.Members.{too_large}
use Rattle.sets.proofs.Masks.{contains-is}
use Rattle.sets.proofs.RuleSet.contains.Goals as goal

pub returns-in_err-mask : goal.returns-in_err-mask
unfolding has_test
returns-in_err-mask c =
    let told : c.from_residual.result ≡ Err TooLarge = search rules in
    ap contained told ∙ sym (too_large c.args.self.mask _ _ c.in_err-mask.ensures.1)

pub returns : goal.returns
returns c =
    let kept : c.in_ok-mask.mask ≡ c.args.self.mask = c.in_ok-mask.ensures.0 in
    rw kept (contains-is c.args.self.mask c.args.t c.mask_of.result c.mask_of.ensures (rw (sym kept) c.in_ok-mask.ensures.1))
