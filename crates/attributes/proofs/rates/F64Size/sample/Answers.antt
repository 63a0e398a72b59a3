-- `Size::sample` of units meets its contract: its tests are those of the definition, in the same order. Assumes nothing.
use Rattle.std.proofs.Common.{sym, refl, ◌∙◌, le-ltb, lt-ltb}
use Rattle.laws.specs.Bools.{every}
use Rattle.laws.proofs.Bools.{told-against}
use Rattle.laws.proofs.Refusals.{passed, refused, none-applies}
use Rattle.attributes.proofs.rates.F64Size.sample.Goals as goal

pub returns-then-damaged-gt-MOST : goal.returns-then-damaged-gt-MOST
unfolding every
returns-then-damaged-gt-MOST c =
    record { tests = sym (refused _ _ _ _ (lt-ltb _ _ c.if-damaged-gt-MOST.true)); numbers = refl }

pub returns-then-not-allowed : goal.returns-then-not-allowed
unfolding every
returns-then-not-allowed c =
    record {
      tests = sym (passed _ _ _ _ (le-ltb _ _ c.if-damaged-gt-MOST.false) ∙ refused _ _ _ _ (told-against c.allowed.ensures c.if-not-allowed.true));
      numbers = refl;
    }

pub returns : goal.returns
unfolding every
returns c =
    record {
      tests = sym (passed _ _ _ _ (le-ltb _ _ c.if-damaged-gt-MOST.false) ∙ passed _ _ _ _ (told-against c.allowed.ensures c.if-not-allowed.false) ∙ none-applies _);
      numbers = refl;
    }
