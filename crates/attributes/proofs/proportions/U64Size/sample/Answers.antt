-- `Size::sample` of parcels meets its contract: its tests are those of the definition, in the same order. Assumes nothing.
use Rattle.std.proofs.Common.{sym, refl, ◌∙◌, le-ltb, lt-ltb, eq-eqb, ne_eqb}
use Rattle.laws.specs.Bools.{every}
use Rattle.laws.proofs.Refusals.{passed, refused, none-applies}
use Rattle.attributes.proofs.proportions.U64Size.sample.Goals as goal

pub returns-then-damaged-inspected : goal.returns-then-damaged-inspected
unfolding every
returns-then-damaged-inspected c =
    record { tests = sym (refused _ _ _ _ c.if-damaged-inspected.true); numbers = refl }

pub returns-then-inspected-eq0 : goal.returns-then-inspected-eq0
unfolding every
returns-then-inspected-eq0 c =
    record { tests = sym (passed _ _ _ _ c.if-damaged-inspected.false ∙ refused _ _ _ _ (eq-eqb _ _ c.if-inspected-eq0.true)); numbers = refl }

pub returns-then-inspected-damaged : goal.returns-then-inspected-damaged
unfolding every
returns-then-inspected-damaged c =
    record {
      tests = sym (passed _ _ _ _ c.if-damaged-inspected.false ∙ passed _ _ _ _ (ne_eqb _ _ c.if-inspected-eq0.false) ∙ refused _ _ _ _ (lt-ltb _ _ c.if-inspected-damaged.true));
      numbers = refl;
    }

pub returns : goal.returns
unfolding every
returns c =
    record {
      tests = sym (passed _ _ _ _ c.if-damaged-inspected.false ∙ passed _ _ _ _ (ne_eqb _ _ c.if-inspected-eq0.false) ∙ passed _ _ _ _ (le-ltb _ _ c.if-inspected-damaged.false) ∙ none-applies _);
      numbers = refl;
    }
