-- `Test::from_bit` meets its contract: the tests stand in the order of their bits. Assumes nothing.
use Rattle.std.proofs.Common.{◌≡◌, ℕ, sym, ap, ◌∙◌, refl, Bor, Option, Some, None, option_copied}
use Rattle.std.specs.Slice.{IsItemAt}
use Rattle.std.proofs.lemmas.Option.{slice_get_read, get_or_from_slice_get}
use Rattle.sets.specs.declared.Test.{Test}
use Rattle.sets.specs.declared.Test.TheVariants.{BeyondLimits}
use Rattle.sets.specs.Sets.{tests, test_of, test_at}
use Rattle.sets.proofs.Sets.{found, not_found}
use Rattle.sets.proofs.Test.from_bit.Goals as goal

-- what is found at a bit's place, if there is one
in-order : (bit : ℕ) (r : Option (Bor Test)) → IsItemAt tests bit r → option_copied r ≡ test_at bit
unfolding tests test_of
in-order bit None item = sym (not_found bit item.3)
in-order bit (Some t) item =
    let there = slice_get_read tests 9 bit t.now refl item.3.0 item.1 in
    sym (found bit item.3.0 ∙ ap (λ (u : Test). Some u) (get_or_from_slice_get tests bit t.now BeyondLimits there))

pub returns : goal.returns
unfolding tests
returns c =
    c.copied.ensures ∙ in-order c.args.bit c.get.result c.get.ensures.lookup
