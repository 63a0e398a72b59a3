-- `rules::ahead` meets its contract: its tests are those of the definition, in the same order. Assumes nothing.
use mathlib.Core.Path.{◌≡◌, refl, sym, ◌∙◌}
use mathlib.Core.Bool.{true, false}
use native.Mathlib.Omega.{arith}
use lib.Dec.{ltb}
use lib.ListN.{length}
use borrow.Author.Tests.{lt-ltb, le-ltb}
use Rattle.laws.specs.Refusals.{first_of}
use Rattle.floats.specs.Finite.{all_finite}
use Rattle.sets.specs.Sets.{too_large}
use Rattle.rules.specs.Finite.{finite_limits}
use Rattle.rules.specs.Lines.{width_wrong}
use Rattle.stops.specs.Stops.{stops_wrong, main_points}
use Rattle.rules.specs.Marking.{ahead}
use Rattle.rules.proofs.ahead.Goals.{Else-set-gt-ALL, Else-not-finite_limits, Else-values-gt-MOST, Else-terms-gt-OWN_WIDTHS, Else-wrong}
use Rattle.rules.proofs.ahead.Goals as goal

-- ---- what each test tells that was passed

few : (c : Else-values-gt-MOST) → ltb 4096 (length c.args.values.now) ≡ false
few c =
    le-ltb 4096 (length c.args.values.now) (omega (arith, c.if-values-gt-MOST.false))

stopped : (c : Else-wrong) → (let a = c.args in stops_wrong (main_points a.terms.moving (length a.values.now)) a.terms.stops.now ≡ false)
stopped c =
    sym c.wrong.ensures ∙ c.if-wrong.false

small : (c : Else-set-gt-ALL) → too_large c.args.set.mask ≡ false
small c =
    le-ltb 511 c.args.set.mask (omega (arith, c.if-set-gt-ALL.false))

moded : (c : Else-terms-gt-OWN_WIDTHS) → width_wrong c.args.terms.width ≡ false
moded c =
    le-ltb 1 c.args.terms.width (omega (arith, c.if-terms-gt-OWN_WIDTHS.false))

sound : (c : Else-not-finite_limits) → finite_limits c.args.terms.limits ≡ true
sound c =
    sym c.finite_limits.ensures ∙ c.if-not-finite_limits.false

pub returns-then-values-gt-MOST : goal.returns-then-values-gt-MOST
unfolding ahead first_of
returns-then-values-gt-MOST c =
    rw (lt-ltb 4096 (length c.args.values.now) (omega (arith, c.if-values-gt-MOST.true))) refl

pub returns-then-wrong : goal.returns-then-wrong
unfolding ahead first_of
returns-then-wrong c =
    let args = c.args in
    let stops : stops_wrong (main_points args.terms.moving (length args.values.now)) args.terms.stops.now ≡ true = sym c.wrong.ensures ∙ c.if-wrong.true in
    simp (le-ltb 4096 (length args.values.now) (omega arith), stops)

pub returns-then-set-gt-ALL : goal.returns-then-set-gt-ALL
unfolding ahead first_of
returns-then-set-gt-ALL c =
    let args = c.args in
    simp (le-ltb 4096 (length args.values.now) (omega arith), stopped (goal.at.returns-then-set-gt-ALL c).Else-wrong, lt-ltb 511 args.set.mask (omega (arith, c.if-set-gt-ALL.true)))

pub returns-then-terms-gt-OWN_WIDTHS : goal.returns-then-terms-gt-OWN_WIDTHS
unfolding ahead first_of
returns-then-terms-gt-OWN_WIDTHS c =
    let args = c.args in
    simp (le-ltb 4096 (length args.values.now) (omega arith), stopped (goal.at.returns-then-terms-gt-OWN_WIDTHS c).Else-wrong, le-ltb 511 args.set.mask (omega arith), lt-ltb 1 args.terms.width (omega (arith, c.if-terms-gt-OWN_WIDTHS.true)))

pub returns-then-not-finite_limits : goal.returns-then-not-finite_limits
unfolding ahead first_of
returns-then-not-finite_limits c =
    let args = c.args in
    let limits : finite_limits args.terms.limits ≡ false = sym c.finite_limits.ensures ∙ c.if-not-finite_limits.true in
    simp (few (goal.at.returns-then-not-finite_limits c).Else-values-gt-MOST, stopped (goal.at.returns-then-not-finite_limits c).Else-wrong, small (goal.at.returns-then-not-finite_limits c).Else-set-gt-ALL, moded (goal.at.returns-then-not-finite_limits c).Else-terms-gt-OWN_WIDTHS, limits)

pub returns-then-not-all_finite : goal.returns-then-not-all_finite
unfolding ahead first_of
returns-then-not-all_finite c =
    let args = c.args in
    let values : all_finite args.values.now ≡ false = sym c.all_finite.ensures ∙ c.if-not-all_finite.true in
    simp (few (goal.at.returns-then-not-all_finite c).Else-values-gt-MOST, stopped (goal.at.returns-then-not-all_finite c).Else-wrong, small (goal.at.returns-then-not-all_finite c).Else-set-gt-ALL, moded (goal.at.returns-then-not-all_finite c).Else-terms-gt-OWN_WIDTHS, sound (goal.at.returns-then-not-all_finite c).Else-not-finite_limits, values)

pub returns : goal.returns
unfolding ahead first_of
returns c =
    let args = c.args in
    let values : all_finite args.values.now ≡ true = sym c.all_finite.ensures ∙ c.if-not-all_finite.false in
    simp (few (goal.at.returns c).Else-values-gt-MOST, stopped (goal.at.returns c).Else-wrong, small (goal.at.returns c).Else-set-gt-ALL, moded (goal.at.returns c).Else-terms-gt-OWN_WIDTHS, sound (goal.at.returns c).Else-not-finite_limits, values)
