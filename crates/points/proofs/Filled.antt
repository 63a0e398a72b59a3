-- What the loops leave is the columns of the chart's points. Assumes nothing.
use mathlib.Core.Path.{◌≡◌, refl, sym, ap, ap₂, ◌∙◌}
use mathlib.Core.Bool.{Bool, true, false, ◌&&◌, false≢true}
use mathlib.Core.List.{List, [], ◌∷◌, map}
use Prim.Native.Nat.{ℕ, zero, suc, ◌+◌, ◌≤◌, ◌<◌}
use native.Mathlib.Omega.{arith}
use lib.Ieee.{Float, nan, binary64}
use lib.ListN.{length, get_or, set}
use Rattle.laws.specs.Bools.{every}
use Rattle.laws.specs.Lists.{tabulate_from, tabulate}
use Rattle.laws.proofs.Bools.{both}
use Rattle.laws.proofs.Lists.{length-tabulate, tabulate-map}
use Rattle.laws.proofs.Filling.{Tabling, tabling-starts, tabling-goes-on, in_place}
use Rattle.laws.proofs.Judged.{Judged, judged-starts, judged-next, judged-all}
use Rattle.floats.specs.Finite.{finite, all_finite}
use Rattle.floats.proofs.Infinite.{finite-sum, finite-product}
use Rattle.points.specs.Points.{upper_of, lower_of, beyond, has_z, z_of, Point, point_at, column, Plot, uppers, lowers, sound}
use Rattle.points.specs.Steps.{plot_by}

-- ---- points of which all is finite

-- but for the sigma
abbrev pub firm : Point → Bool
firm p = finite p.value && finite p.ucl && finite p.lcl

middle : (a b c d : Bool) → (a && b) && (c && d) ≡ (a && c) && (b && d)
middle true true c d = refl
middle true false true d = refl
middle true false false d = refl
middle false b c d = refl

module _ (f g : ℕ → Bool) where
  every-both : (i n : ℕ) → every (tabulate_from (λ k. f k && g k) i n) ≡ every (tabulate_from f i n) && every (tabulate_from g i n)
  unfolding every tabulate_from
  every-both i zero = refl
  every-both i (suc n) =
      ap (λ (b : Bool). (f i && g i) && b) (every-both (suc i) n)
      ∙ middle (f i) (g i) (every (tabulate_from f (suc i) n)) (every (tabulate_from g (suc i) n))

map-from : {A B : Type 0} (f : A → B) (g : ℕ → A) (i n : ℕ) → map f (tabulate_from g i n) ≡ tabulate_from (λ k. f (g k)) i n
unfolding tabulate_from
map-from f g i zero = refl
map-from f g i (suc n) = ap (λ (l : List _). f (g i) ∷ l) (map-from f g (suc i) n)

each-finite : (f : ℕ → Float) (n : ℕ) → every (tabulate (λ k. finite (f k)) n) ≡ all_finite (tabulate f n)
unfolding all_finite
each-finite f n = ap every (sym (map-from finite f 0 n))

-- finite upper limits are those of finite sigmas
finite-sigmas : (cl : Float) (ss : List Float) → all_finite (map (upper_of cl) ss) ≡ true → all_finite ss ≡ true
unfolding all_finite every upper_of
finite-sigmas cl [] h = refl
finite-sigmas cl (s ∷ ss) h =
    let both_so = both (finite (upper_of cl s)) (all_finite (map (upper_of cl) ss)) h in
    ap₂ ◌&&◌ (finite-product binary64 _ s (finite-sum binary64 cl _ both_so.0).1).1 (finite-sigmas cl ss both_so.1)

implied : (p v c d e : Bool) → (d ≡ true → c ≡ true) → p && (v && d && e) ≡ p && v && c && d && e
implied false v c d e h = refl
implied true false c d e h = refl
implied true true true d e h = refl
implied true true false true e h = absurd (false≢true (h refl))
implied true true false false e h = refl

-- ---- the loop, and what it leaves

-- after i points: the fronts of the columns are written, and `all` tells of the points so far
pub record Columns (g : Plot) (lcl₀ : List Float) (out₀ : List Bool) (z₀ : List Float) (has_z₀ : List Bool)
    (ucl lcl : List Float) (out : List Bool) (z : List Float) (has_z : List Bool) (all : Bool) (i : ℕ) : Type 0 where
  pub of-ucl : Tabling (λ k. (point_at g k).ucl) (length g.values) g.sigmas ucl i
  pub of-lcl : Tabling (λ k. (point_at g k).lcl) (length g.values) lcl₀ lcl i
  pub of-out : Tabling (λ k. (point_at g k).out_of_control) (length g.values) out₀ out i
  pub of-z : Tabling (λ k. (point_at g k).z) (length g.values) z₀ z i
  pub of-has-z : Tabling (λ k. (point_at g k).has_z) (length g.values) has_z₀ has_z i
  pub of-all : Judged (λ k. firm (point_at g k)) (length g.values) i all

module _ (cl : Float) (vs ss : List Float) where
  abbrev g : Plot
  g = plot_by cl vs ss

  all-firm : every (tabulate (λ k. firm (point_at g k)) (length vs)) ≡ all_finite vs && all_finite (uppers g) && all_finite (lowers g)
  unfolding all_finite
  all-firm =
      every-both (λ k. finite (point_at g k).value && finite (point_at g k).ucl) (λ k. finite (point_at g k).lcl) 0 (length vs)
      ∙ ap₂ ◌&&◌
      (every-both (λ k. finite (point_at g k).value) (λ k. finite (point_at g k).ucl) 0 (length vs)
      ∙ ap₂ ◌&&◌ (ap every (tabulate-map finite vs nan)) (each-finite (λ k. (point_at g k).ucl) (length vs)))
      (each-finite (λ k. (point_at g k).lcl) (length vs))

  sound-is : {centre all : Bool} → length ss ≡ length vs → centre ≡ finite cl → all ≡ every (tabulate (λ k. firm (point_at g k)) (length vs)) → (centre && all) ≡ sound g
  unfolding sound
  sound-is n p q =
      ap₂ ◌&&◌ p (q ∙ all-firm)
      ∙ implied (finite cl) (all_finite vs) (all_finite ss) (all_finite (uppers g)) (all_finite (lowers g))
      (λ h. finite-sigmas cl ss (ap all_finite (sym (tabulate-map (upper_of cl) ss nan) ∙ ap (tabulate (λ i. upper_of cl (get_or ss i nan))) n) ∙ h))

  module _ (lcl₀ : List Float) (out₀ : List Bool) (z₀ : List Float) (has_z₀ : List Bool) where
    -- each slice has an entry for each value
    abbrev Long : Type 0
    Long = (length ss ≡ length vs) × (length lcl₀ ≡ length vs) × (length out₀ ≡ length vs) × (length z₀ ≡ length vs) × (length has_z₀ ≡ length vs)

    pub columns-start : Long → Columns g lcl₀ out₀ z₀ has_z₀ ss lcl₀ out₀ z₀ has_z₀ true 0
    columns-start long = record {
      of-ucl = tabling-starts _ _ _ (omega (arith, long));
      of-lcl = tabling-starts _ _ _ (omega (arith, long));
      of-out = tabling-starts _ _ _ (omega (arith, long));
      of-z = tabling-starts _ _ _ (omega (arith, long));
      of-has-z = tabling-starts _ _ _ (omega (arith, long));
      of-all = judged-starts _ _;
    }

    module _ (ucl lcl : List Float) (out : List Bool) (z : List Float) (has : List Bool) (all : Bool) (i : ℕ)
        (c : Columns g lcl₀ out₀ z₀ has_z₀ ucl lcl out z has all i) where
      pub columns-go-on : (upper lower standardized : Float) (finite-so : Bool) → i < length vs → upper ≡ upper_of cl (get_or ucl i nan)
          → lower ≡ lower_of cl (get_or ucl i nan) → standardized ≡ z_of (get_or vs i nan) cl (get_or ucl i nan)
          → finite-so ≡ finite (get_or vs i nan) && finite upper && finite lower
          → Columns g lcl₀ out₀ z₀ has_z₀ (set ucl i upper) (set lcl i lower) (set out i (beyond (get_or vs i nan) upper lower)) (set z i standardized)
          (set has i (has_z (get_or ucl i nan))) (all && finite-so) (i + 1)
      columns-go-on upper lower standardized finite-so h u l s f =
          let still = in_place _ _ _ _ _ c.of-ucl nan in
          let up : upper ≡ (point_at g i).ucl = u ∙ ap (upper_of cl) still in
          let low : lower ≡ (point_at g i).lcl = l ∙ ap (lower_of cl) still in
          record {
            of-ucl = tabling-goes-on _ _ _ _ _ c.of-ucl upper h up;
            of-lcl = tabling-goes-on _ _ _ _ _ c.of-lcl lower h low;
            of-out = tabling-goes-on _ _ _ _ _ c.of-out _ h (ap₂ (beyond (get_or vs i nan)) up low);
            of-z = tabling-goes-on _ _ _ _ _ c.of-z standardized h (s ∙ ap (z_of (get_or vs i nan) cl) still);
            of-has-z = tabling-goes-on _ _ _ _ _ c.of-has-z _ h (ap has_z still);
            of-all = judged-next _ _ _ _ c.of-all finite-so h (f ∙ ap₂ (λ (x y : Float). finite (get_or vs i nan) && finite x && finite y) up low);
          }

      pub columns-sound : length ss ≡ length vs → length vs ≤ i → {centre : Bool} → centre ≡ finite cl → (centre && all) ≡ sound g
      columns-sound long h e = sound-is long e (judged-all _ _ _ _ c.of-all h)

-- a column has as many entries as there are points
pub column-length : {A : Type 0} (f : Point → A) (g : Plot) → length (column f g) ≡ length g.values
column-length f g = length-tabulate (λ i. f (point_at g i)) (length g.values)
