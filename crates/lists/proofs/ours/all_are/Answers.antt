-- `lists::ours::all_are` meets its contract. Assumes nothing.
use mathlib.Core.Path.{◌≡◌, sym, ap, ◌∙◌}
use mathlib.Core.Bool.{true, false}
use lib.Dec.{eqb}
use lib.ListN.{drop}
use borrow.Author.Rules.{rules}
use borrow.Author.Tests.{tests}
use Rattle.std.specs.List.{list_all}
use Rattle.std.proofs.lemmas.Iterator.{cases_from_all, YieldsList-from_slice}
use Rattle.std.proofs.lemmas.Iterator.Adapters.{YieldsList-from_skip}
use Rattle.std.proofs.lemmas.List.{drop-map}
use Rattle.std.proofs.lemmas.List.Folds.{list_all-map}
use Rattle.lists.specs.Ours.{all_are}
use Rattle.lists.proofs.Alike.{as_test}
use Rattle.lists.proofs.ours.all_are.Goals as goal

pub returns : goal.returns
unfolding all_are
returns g c =
    let a = c.args in
    let f = g.T.Listed.listed in
    let x = f a.x.now in
    as_test (λ y. eqb (f y) x) c.all.result (drop a.from a.xs.now)
    (cases_from_all _ _ _ (λ y. eqb (f y) x ≡ true) (λ y. eqb (f y) x ≡ false) c.all.ensures.ran
    (YieldsList-from_skip a.from (YieldsList-from_slice a.xs.now cc) cc)
    (λ y q k. search (rules, tests)) (λ y q k. search (rules, tests)))
    ∙ sym (ap (list_all (λ y. eqb y x)) (drop-map f a.from a.xs.now) ∙ list_all-map (λ y. eqb y x) f (drop a.from a.xs.now))
