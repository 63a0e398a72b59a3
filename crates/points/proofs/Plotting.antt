-- Plotting: what passed lengths tell, and each case of the answer. Assumes nothing.
use mathlib.Core.Path.{◌≡◌, refl, sym, ap, ap₂, ◌∙◌}
use mathlib.Core.Bool.{Bool, true, false, not, ◌||◌, or-false, or_assoc}
use mathlib.Core.List.{List, [], ◌∷◌, ◌++◌, foldl}
use Rattle.std.specs.List.{list_any}
use Prim.Native.Nat.{ℕ, ◌≤◌}
use borrow.Author.Tests.{ltb-false, le-ltb}
use lib.Dec.{ltb}
use lib.ListN.{length, take, drop, replicate, take-append-drop}
use lib.Seq.{length-take-le, length_front}
use Rattle.laws.specs.Refusals.{first_of}
use Rattle.laws.specs.Front.{lent_after}
use Rattle.laws.proofs.Bools.{or_left, or_right}
use Rattle.laws.proofs.LentAfter.{slice-7, slice-done}
use Rattle.laws.proofs.Refusals.{passed, refused, none-applies}
use native.Mathlib.Omega.{arith}
use Rattle.std.specs.Prelude.{Result, Ok, Err}
use Rattle.numbers.proofs.Numbers.{Telling}
use Rattle.points.specs.declared.Refusal.{Refusal}
use Rattle.points.specs.declared.Refusal.TheVariants.{TooShort, Overflow}
use Rattle.points.specs.Points.{Plot, sound}
use Rattle.points.specs.Plotting.{number, plotted, any_shorter, plot_number}
use Rattle.points.specs.Steps.{settled}

-- ---- room for n points

pub record Room (n values ucl lcl out z has : ℕ) : Type 0 where
  pub in-values : n ≤ values
  pub in-ucl : n ≤ ucl
  pub in-lcl : n ≤ lcl
  pub in-out : n ≤ out
  pub in-z : n ≤ z
  pub in-has-z : n ≤ has

pub has_room : (n a b c d e f : ℕ) → any_shorter n (a ∷ b ∷ c ∷ d ∷ e ∷ f ∷ []) ≡ false → Room n a b c d e f
has_room n a b c d e f h =
    let s : ℕ → Bool = λ l. ltb l n in
    let five = or_left (s a || s b || s c || s d || s e) (s f) h in
    let four = or_left (s a || s b || s c || s d) (s e) five in
    let three = or_left (s a || s b || s c) (s d) four in
    let two = or_left (s a || s b) (s c) three in
    record {
      in-values = ltb-false a n (or_left (s a) (s b) two);
      in-ucl = ltb-false b n (or_right (s a) (s b) two);
      in-lcl = ltb-false c n (or_right (s a || s b) (s c) three);
      in-out = ltb-false d n (or_right (s a || s b || s c) (s d) four);
      in-z = ltb-false e n (or_right (s a || s b || s c || s d) (s e) five);
      in-has-z = ltb-false f n (or_right (s a || s b || s c || s d || s e) (s f) h);
    }

pub none-shorter : (n a b c d e f : ℕ) → Room n a b c d e f → any_shorter n (a ∷ b ∷ c ∷ d ∷ e ∷ f ∷ []) ≡ false
none-shorter n a b c d e f r =
    rw (le-ltb a n r.in-values, le-ltb b n r.in-ucl, le-ltb c n r.in-lcl, le-ltb d n r.in-out, le-ltb e n r.in-z, le-ltb f n r.in-has-z) refl

-- some length is shorter
pub any-shorter : (n : ℕ) (t : Bool) (lengths : List ℕ) → (t || list_any (λ (l : ℕ). ltb l n) lengths) ≡ foldl (λ (t : Bool) (l : ℕ). t || ltb l n) t lengths
any-shorter n t [] = or-false t
any-shorter n t (l ∷ lengths) = sym (or_assoc t (ltb l n) (list_any (λ (l : ℕ). ltb l n) lengths)) ∙ any-shorter n (t || ltb l n) lengths

-- ---- the number

tells : Telling number
tells = record { not_done = not_done; one = one }
  where
    not_done : (why : Refusal) → 0 ≡ number why → ⊥
    not_done TooShort e = omega arith
    not_done Overflow e = omega arith

    one : (a b : Refusal) → number a ≡ number b → a ≡ b
    one TooShort TooShort e = refl
    one TooShort Overflow e = absurd (omega arith)
    one Overflow TooShort e = absurd (omega arith)
    one Overflow Overflow e = refl

-- it fixes the answer
pub plotted-one : (a b : Result (Unit {0}) Refusal) → plotted a ≡ plotted b → a ≡ b
plotted-one (Ok a) (Ok b) e = refl
plotted-one (Ok a) (Err why) e = absurd (tells.not_done why e)
plotted-one (Err why) (Ok b) e = absurd (tells.not_done why (sym e))
plotted-one (Err a) (Err b) e = ap (λ (w : Refusal). Err w) (tells.one a b e)

module _ (short : Bool) (g : Plot) where
  pub number-6 : short ≡ true → 6 ≡ plot_number short g
  unfolding plot_number
  number-6 h = sym (refused _ _ _ _ h)

  -- where the slices have room, 7 decides
  pub decided : short ≡ false → plot_number short g ≡ settled (sound g)
  unfolding plot_number
  decided h = passed _ _ _ _ h ∙ by (sound g) refl
    where
      by : (b : Bool) → sound g ≡ b → first_of ((not (sound g), 7) ∷ []) 0 ≡ settled (sound g)
      by true e = passed _ _ _ _ (ap not e) ∙ none-applies _ ∙ sym (ap settled e)
      by false e = refused _ _ _ _ (ap not e) ∙ sym (ap settled e)

  pub number-7 : short ≡ false → sound g ≡ false → 7 ≡ plot_number short g
  number-7 h e = sym (decided h ∙ ap settled e)

  pub number-0 : short ≡ false → sound g ≡ true → 0 ≡ plot_number short g
  number-0 h e = sym (decided h ∙ ap settled e)

-- ---- fronts of n entries

module _ {A : Type 0} (nought : A) (n : ℕ) where
  -- a part came back, and all was zeroed
  pub part-zeroed : (written part old : List A) {now : List A} → length part ≡ length (take n old)
      → now ≡ replicate (length (part ++ drop n old)) nought → now ≡ lent_after 7 nought written old
  part-zeroed written part old k e = slice-7 nought written old (part ++ drop n old) (length_front old part n k) e

  -- a part came back written
  pub part-written : (written part old : List A) → part ≡ written → length written ≡ n → part ++ drop n old ≡ lent_after 0 nought written old
  part-written written part old e k =
      slice-done nought written written old (ap₂ (λ (l : List A) (m : ℕ). l ++ drop m old) e (sym k)) refl

  -- a front that was only read
  pub front_kept : (old : List A) → n ≤ length old → old ≡ lent_after 0 nought (take n old) old
  front_kept old h =
      slice-done nought (take n old) (take n old) old
      (sym (take-append-drop n old) ∙ ap (λ (m : ℕ). take n old ++ drop m old) (sym (length-take-le n old h))) refl
