-- `RuleSet::without` meets its contract: the test's mask is taken out by and with its complement. Assumes nothing.
use mathlib.Core.Path.{◌≡◌, sym, ap, ◌∙◌}
use Rattle.std.specs.Prelude.{Err}
use Rattle.std.proofs.Common.{rules}
use Rattle.sets.specs.declared.Refusal.TheVariants.{TooLarge}
use Rattle.sets.specs.Calls.{chosen, without_test}
use Rattle.sets.proofs.Members.{too_large}
use Rattle.sets.proofs.Masks.{without_is}
use Rattle.sets.proofs.RuleSet.without.Goals as goal

pub returns-in_err-mask : goal.returns-in_err-mask
unfolding without_test
returns-in_err-mask c =
    let told : c.from_residual.result ≡ Err TooLarge = search rules in
    ap chosen told ∙ sym (too_large c.args.self.mask _ _ c.in_err-mask.ensures.1)

pub returns : goal.returns
returns c =
    let kept : c.in_ok-mask.mask ≡ c.args.self.mask = c.in_ok-mask.ensures.0 in
    rw kept (without_is c.args.self.mask c.args.t c.mask_of.result c.mask_of.ensures (rw (sym kept) c.in_ok-mask.ensures.1))
