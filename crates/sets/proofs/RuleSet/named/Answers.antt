-- `RuleSet::named` meets its contract: the name is compared with each of the three. Assumes nothing.
use mathlib.Core.Path.{◌≡◌, sym, ap, ◌∙◌}
use mathlib.Core.Bool.{Bool}
use mathlib.Core.List.{List}
use Prim.Native.Nat.{ℕ}
use lib.Dec.{eqb}
use lib.Pointwise.{pointwise}
use Rattle.sets.specs.Calls.{same, shewhart, nelson, western_electric}
use Rattle.sets.proofs.Names.{pointwise-same, first-named, second-named, third-named, none_named}
use Rattle.sets.proofs.RuleSet.named.Goals as goal

-- what a comparison tells of a name and a word that is read off a slice
told : (name word : List ℕ) {read : List ℕ} {r t : Bool} → r ≡ pointwise eqb name read → read ≡ word → r ≡ t
    → same name word ≡ t
told name word e is r = sym (pointwise-same name word) ∙ ap (pointwise eqb name) (sym is) ∙ sym e ∙ r

pub returns-then-eq : goal.returns-then-eq
returns-then-eq c =
    ap (λ (m : ℕ). (0, m)) c.shewhart.ensures ∙ sym (first-named _ (told c.args.name.now shewhart c.eq.ensures c.as_slice.ensures c.if-eq.true))

pub returns-then-eq-2 : goal.returns-then-eq-2
returns-then-eq-2 c =
    ap (λ (m : ℕ). (0, m)) c.nelson.ensures
    ∙ sym (second-named _ (told c.args.name.now shewhart c.eq.ensures c.as_slice.ensures c.if-eq.false) (told c.args.name.now nelson c.eq-2.ensures c.as_slice-2.ensures c.if-eq-2.true))

pub returns-then-eq-3 : goal.returns-then-eq-3
returns-then-eq-3 c =
    ap (λ (m : ℕ). (0, m)) c.western_electric.ensures
    ∙ sym
    (third-named
    _
    (told c.args.name.now shewhart c.eq.ensures c.as_slice.ensures c.if-eq.false)
    (told c.args.name.now nelson c.eq-2.ensures c.as_slice-2.ensures c.if-eq-2.false)
    (told c.args.name.now western_electric c.eq-3.ensures c.as_slice-3.ensures c.if-eq-3.true))

pub returns : goal.returns
returns c =
    sym
    (none_named
    _
    (told c.args.name.now shewhart c.eq.ensures c.as_slice.ensures c.if-eq.false)
    (told c.args.name.now nelson c.eq-2.ensures c.as_slice-2.ensures c.if-eq-2.false)
    (told c.args.name.now western_electric c.eq-3.ensures c.as_slice-3.ensures c.if-eq-3.false))
