-- Numbers written one after another. Assumes nothing.
use mathlib.Core.Path.{◌≡◌, refl, sym, ap, ◌∙◌}
use mathlib.Core.List.{List, [], ◌∷◌, ◌++◌, map, append-nil, append_assoc}
use Prim.Native.Nat.{ℕ, ◌+◌, ◌<◌}
use native.Mathlib.Numerals.{add-one}
use lib.ListN.{length, get_or, take}
use lib.Seq.{take-suc}
use Rattle.std.proofs.lemmas.List.{map-append, map-id}
use Rattle.groups.specs.Groups.{groups}
use Rattle.lists.specs.Ours.{in_groups}

pub in_groups-append : (xs ys : List ℕ) → in_groups (xs ++ ys) ≡ in_groups xs ++ in_groups ys
unfolding in_groups
in_groups-append [] ys = refl
in_groups-append (x ∷ xs) ys = ap (λ (l : List ℕ). groups x ++ l) (in_groups-append xs ys) ∙ sym (append_assoc (groups x) (in_groups xs) (in_groups ys))

pub in_groups-one : (x : ℕ) → in_groups (x ∷ []) ≡ groups x
unfolding in_groups
in_groups-one x = append-nil (groups x)

-- what was put: a number by itself, a row that stands as it is, and numbers behind others
pub put_one : (old : List ℕ) (x : ℕ) {new : List ℕ} → new ≡ old ++ groups x → new ≡ old ++ in_groups (x ∷ [])
put_one old x e = e ∙ ap (λ (l : List ℕ). old ++ l) (sym (in_groups-one x))

pub put_plain : (old xs : List ℕ) {new : List ℕ} → new ≡ old ++ in_groups (map (λ x. x) xs) → new ≡ old ++ in_groups xs
put_plain old xs e = e ∙ ap (λ (l : List ℕ). old ++ in_groups l) (map-id xs)

pub put_then : (old xs ys : List ℕ) {mid new : List ℕ} → mid ≡ old ++ in_groups xs → new ≡ mid ++ in_groups ys → new ≡ old ++ in_groups (xs ++ ys)
put_then old xs ys e f =
    f
    ∙ ap (λ (l : List ℕ). l ++ in_groups ys) e
    ∙ append_assoc old (in_groups xs) (in_groups ys)
    ∙ ap (λ (l : List ℕ). old ++ l) (sym (in_groups-append xs ys))

-- one number more of what a function makes of a row
pub put_next : {A : Type 0} (f : A → ℕ) (xs : List A) (i : ℕ) (x : A) → i < length xs → x ≡ get_or xs i x → (old : List ℕ) {now new : List ℕ}
    → now ≡ old ++ in_groups (map f (take i xs)) → new ≡ now ++ groups (f x) → new ≡ old ++ in_groups (map f (take (i + 1) xs))
put_next f xs i x h is old {now} e g =
    put_then old (map f (take i xs)) (f x ∷ []) e (put_one now (f x) g)
    ∙ ap (λ (l : List ℕ). old ++ in_groups l) (sym (map-append f (take i xs) (x ∷ [])))
    ∙ ap (λ (l : List _). old ++ in_groups (map f l)) (sym (rw (add-one i, take-suc xs i x h, ← is)))
