-- What the `fold` of a slice and a `reduce` give where each call of the closure gives what a rule gives: that rule folded. Assumes nothing.
use mathlib.Core.Path.{◌≡◌, refl, sym, subst, ap, ◌∙◌}
use mathlib.Core.List.{List, [], ◌∷◌}
use denote.Param.Members.{Mut}
use denote.Ref.{Bor}
use Rattle.std.proofs.Common.{Iter}
use Rattle.std.specs.Fn.{Called}
use Rattle.std.specs.Prelude.{Option, Some, None}
use Rattle.std.specs.Iterator.{Drains, FoldTurn, ReducesItems}
use Rattle.std.proofs.lemmas.Iterator.{YieldsList}
use Rattle.std.proofs.lemmas.Iterator.Consumers.{reduce_from_yields_List}
use Rattle.std.specs.List.{fold, reduce, FoldsTo}
use Rattle.std.proofs.lemmas.Fn.{fold_over, slice_gives, fronts}
use Rattle.std.proofs.lemmas.List.Sums.{fold_push}

module _ {A B F : Type 0} (rule : B → A → B) (g : Mut F (B × (Bor A × Unit {0})) B) (f : F) where
  -- a call of f gives what the rule gives, and changes nothing that f holds
  abbrev pub Follows : Type 0
  Follows = (a : B) (x : Bor A) (b : B) (f' : F) → Called g f (a, (x, tt)) b f' → (b ≡ rule a x.now) × (f' ≡ f)

  pub folded : Follows → (s : Iter A) (xs : List A) → s.rest.now ≡ xs → (a r : B)
      → (ys : List (Bor A)) × (f' : F) × Drains fronts s ys × FoldsTo {P = F × B} (λ p x q. Called g p.0 (p.1, (x, tt)) q.1 q.0) (f, a) ys (f', r)
      → r ≡ fold rule a xs
  folded follows s xs e a r ran =
      subst (λ l. r ≡ fold rule a l) e
      (fold_over fronts (λ y. y.now) g (λ ys b. b ≡ fold rule a ys) f
      (λ ys b x d f' j k.
      let h = follows b x d f' k in
      (h.0 ∙ ap (λ (t : B). rule t x.now) j ∙ sym (fold_push rule a ys x.now), h.1)) s s.rest.now a r (slice_gives s) refl ran)

-- the same of `reduce`, which begins with the first item
module _ {A F : Type 0} (rule : A → A → A) (g : Mut F (A × (A × Unit {0})) A) (f : F)
    (follows : (a x b : A) (f' : F) → Called g f (a, (x, tt)) b f' → (b ≡ rule a x) × (f' ≡ f)) where
  by_rule : (xs : List A) (x y : A) (f0 f' : F) → f0 ≡ f → FoldsTo {P = F × A} (FoldTurn g) (f0, x) xs (f', y) → FoldsTo (λ p z c. c ≡ rule p z) x xs y
  by_rule [] x y f0 f' e run = ap (λ (p : F × A). p.1) run
  by_rule (z ∷ xs) x y f0 f' e (j, call, run) =
      let h = follows x z j.1 j.0 (subst (λ (k : F). Called g k (x, (z, tt)) j.1 j.0) e call) in
      (j.1, h.0, by_rule xs j.1 y j.0 f' h.1 run)

  pub reduced : {S : Type 0} {steps : S → Option A → S → Type 0} (s : S) {all : List A} → YieldsList steps (λ x. x) s all
      → (r : Option A) → ReducesItems steps g s f r → r ≡ reduce rule all
  reduced s road None ran = reduce_from_yields_List rule s None ran road
  reduced s road (Some y) (x, xs, f', drains, run) = reduce_from_yields_List rule s (Some y) (x, xs, drains, by_rule xs x y f f' refl run) road
