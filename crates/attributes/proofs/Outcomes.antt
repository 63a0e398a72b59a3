-- Evaluating, of either chart: each case of the answer, and the slices. Assumes nothing.
use Rattle.std.proofs.Common.{◌≡◌, ℕ, ◌≤◌, Bool, true, false, cond, not, eqb, List, [], ◌∷◌, length, get_or, get_or-take, take, drop, sym, refl, ap, ◌∙◌, ap₂, arith, length-append, length-drop, length-take-le, take_at, ◌++◌, ne_eqb, eqb-true}
use borrow.Author.Tests.{not-true}
use lib.Seq.{drop_at}
use lib.Ieee.{Float, nan, binary64, div}
use Rattle.laws.specs.Bools.{every}
use Rattle.laws.specs.Refusals.{first_of}
use Rattle.laws.specs.Lists.{tabulate}
use Rattle.laws.specs.Front.{at_front, lent_after}
use Rattle.laws.proofs.Lists.{length-tabulate, get_d_tabulate, same-tabulate}
use Rattle.laws.proofs.LentAfter.{slice_kept, slice-same, slice_over}
use Rattle.laws.proofs.Refusals.{passed, refused, none-applies, first-append, first_else, first-such}
use Rattle.floats.specs.Values.{plus_zero, whole as whole_of}
use Rattle.points.specs.Points.{Plot, sound, uppers, lowers, outs, zs, has_zs}
use Rattle.points.specs.Plotting.{any_shorter, plot_from, plot_number}
use Rattle.points.specs.Steps.{settled}
use Rattle.points.proofs.Filled.{column-length}
use Rattle.points.proofs.Plotting.{none-shorter, decided}
use Rattle.attributes.specs.declared.Refusal.{Refusal}
use Rattle.std.specs.Prelude.{Result, Err}
use Rattle.attributes.specs.Records.{number}
use Rattle.attributes.specs.Evaluating.{sigma_of, answer_for, values_of, sigmas_of, plot_of, refusals}
use Rattle.attributes.specs.Steps.{tested, ahead, variances_of, roots_of}
use Rattle.attributes.proofs.Answers.{number-some}

-- the number of an answer
pub answer-number : (n : ℕ) (cl : Float) → (answer_for n cl).0 ≡ n
answer-number n cl = by (eqb n 0) refl
  where
    by : (b : Bool) → eqb n 0 ≡ b → (cond {A = ℕ × Float} b (0, cl) (n, plus_zero)).0 ≡ n
    by true e = sym (eqb-true n 0 e)
    by false e = refl

module _ (wrong : Bool) (count : ℕ) (short : Bool) (g : Plot) where
  -- where the tests ahead are passed, 7 decides
  whole : first_of (refusals wrong count short g) 0
      ≡ cond (eqb (first_of (ahead wrong count short) 0) 0) (first_of ((not (sound g), 7) ∷ []) 0) (first_of (ahead wrong count short) 0)
  unfolding every
  whole = first-append (ahead wrong count short) ((not (sound g), 7) ∷ []) 0 ∙ first_else (ahead wrong count short) _ refl

  -- ---- refused ahead of 7

  module _ {why : Refusal} {t : Result (Unit {0}) Refusal} (is : t ≡ Err why) (found : tested t ≡ first_of (ahead wrong count short) 0) where
    e : first_of (ahead wrong count short) 0 ≡ number why
    e = sym found ∙ ap tested is

    pub answer-refused : (cl : Float) → (number why, plus_zero) ≡ answer_for (first_of (refusals wrong count short g) 0) cl
    answer-refused cl =
        let n = number why in
        let no = ne_eqb n 0 (number-some why) in
        let same : first_of (refusals wrong count short g) 0 ≡ n =
        whole
        ∙ ap (λ (k : ℕ). cond (eqb k 0) (first_of ((not (sound g), 7) ∷ []) 0) k) e
        ∙ ap (λ (b : Bool). cond b (first_of ((not (sound g), 7) ∷ []) 0) n) no in
        sym (ap (λ (k : ℕ). answer_for k cl) same ∙ ap (λ (b : Bool). cond b (0, cl) (n, plus_zero)) no)

    pub slice-refused : {A : Type 0} (nought : A) (written old : List A) → old ≡ lent_after (number why) nought written old
    unfolding every
    slice-refused nought written old =
        slice_kept nought written old (number why) (number-some why)
        (ap (λ (n : ℕ). eqb n 7) (sym e)
        ∙ not-true (eqb (first_of (ahead wrong count short) 0) 7) (first-such (λ n. not (eqb n 7)) (ahead wrong count short) refl refl))

  -- ---- passed

  pub by-7 : first_of (ahead wrong count short) 0 ≡ 0 → first_of (refusals wrong count short g) 0 ≡ settled (sound g)
  by-7 e =
      whole
      ∙ ap (λ (k : ℕ). cond (eqb k 0) (first_of ((not (sound g), 7) ∷ []) 0) k) e
      ∙ by (sound g) refl
    where
      by : (b : Bool) → sound g ≡ b → first_of ((not (sound g), 7) ∷ []) 0 ≡ settled (sound g)
      by true q = passed _ _ _ _ (ap not q) ∙ none-applies _ ∙ sym (ap settled q)
      by false q = refused _ _ _ _ (ap not q) ∙ sym (ap settled q)

-- ---- the points of samples whose sizes stand in front of the slice of upper limits

-- values, in a slice cut for them
pub in-front : (counts : List ℕ) (n : ℕ) (sizes old : List Float) {vs : List Float} → length sizes ≡ n → vs ≡ values_of (take n counts) sizes
    → vs ++ drop n old ≡ at_front (values_of counts sizes) old
in-front counts n sizes old long e =
    let cut : ℕ → Float = λ i. div binary64 (whole_of (get_or (take n counts) i 0)) (get_or sizes i nan) in
    let all : ℕ → Float = λ i. div binary64 (whole_of (get_or counts i 0)) (get_or sizes i nan) in
    ap₂ ◌++◌
    (e
    ∙ same-tabulate cut all (length sizes)
    (λ k q. ap (λ (c : ℕ). div binary64 (whole_of c) (get_or sizes k nan)) (get_or-take n counts k 0 (omega (arith, q, long)))))
    (ap (λ (k : ℕ). drop k old) (sym (length-tabulate all (length sizes) ∙ long)))

-- variances, and their roots in their place
pub in-two-steps : (variance : Float) (n : ℕ) (old : List Float) {vs now : List Float} → n ≤ length old
    → vs ≡ variances_of variance (take n old) → now ≡ roots_of (take n (vs ++ drop n old))
    → now ++ drop n (vs ++ drop n old) ≡ at_front (sigmas_of variance (take n old)) old
in-two-steps variance n old {vs} {now} h e f =
    let sizes = take n old in
    let made = variances_of variance sizes in
    let long = length-tabulate (λ i. div binary64 variance (get_or sizes i nan)) (length sizes) in
    let many : length vs ≡ n = ap length e ∙ long ∙ length-take-le n old h in
    let roots : roots_of made ≡ sigmas_of variance sizes =
    ap (tabulate (λ i. sigma_of (get_or made i nan))) long
    ∙ same-tabulate (λ i. sigma_of (get_or made i nan)) (λ i. sigma_of (div binary64 variance (get_or sizes i nan))) (length sizes)
    (λ k q. ap sigma_of (get_d_tabulate (λ i. div binary64 variance (get_or sizes i nan)) (length sizes) k nan q)) in
    ap₂ ◌++◌ (f ∙ ap roots_of (take_at vs (drop n old) n many ∙ e) ∙ roots)
    (drop_at vs (drop n old) n many
    ∙ ap (λ (k : ℕ). drop k old) (sym (length-tabulate (λ i. sigma_of (div binary64 variance (get_or sizes i nan))) (length sizes) ∙ length-take-le n old h)))

module _ (cl variance : Float) (counts : List ℕ) (n : ℕ) (values₀ ucl₀ : List Float) (in-values : n ≤ length values₀) (in-ucl : n ≤ length ucl₀)
    {values ucl : List Float} (v : values ≡ at_front (values_of counts (take n ucl₀)) values₀) (s : ucl ≡ at_front (sigmas_of variance (take n ucl₀)) ucl₀) where
  abbrev theirs : Plot
  theirs = plot_of cl variance counts (take n ucl₀)

  abbrev found : Plot
  found = plot_from cl n values ucl

  many-values : length theirs.values ≡ n
  many-values = length-tabulate _ (length (take n ucl₀)) ∙ length-take-le n ucl₀ in-ucl

  many-sigmas : length theirs.sigmas ≡ n
  many-sigmas = length-tabulate _ (length (take n ucl₀)) ∙ length-take-le n ucl₀ in-ucl

  values-are : take n values ≡ theirs.values
  values-are = ap (take n) v ∙ take_at theirs.values (drop (length theirs.values) values₀) n many-values

  sigmas-are : take n ucl ≡ theirs.sigmas
  sigmas-are = ap (take n) s ∙ take_at theirs.sigmas (drop (length theirs.sigmas) ucl₀) n many-sigmas

  found-is : found ≡ theirs
  found-is = λ i. record { centre = cl; values = values-are i; sigmas = sigmas-are i }

  -- the slices have room for n points, and those that were written still do
  roomy : (lcl out z has : ℕ) → n ≤ lcl → n ≤ out → n ≤ z → n ≤ has → any_shorter n (length values ∷ length ucl ∷ lcl ∷ out ∷ z ∷ has ∷ []) ≡ false
  roomy lcl out z has c d e f = none-shorter n (length values) (length ucl) lcl out z has (record {
    in-values =
        omega (arith, ap length v, length-append theirs.values (drop (length theirs.values) values₀), length-drop (length theirs.values) values₀, many-values);
    in-ucl = omega (arith, ap length s, length-append theirs.sigmas (drop (length theirs.sigmas) ucl₀), length-drop (length theirs.sigmas) ucl₀, many-sigmas);
    in-lcl = c;
    in-out = d;
    in-z = e;
    in-has-z = f;
  })

  pub plotted-so : (m : ℕ) (lcl₀ : List Float) (out₀ : List Bool) (z₀ : List Float) (has₀ : List Bool) → n ≤ length lcl₀ → n ≤ length out₀
      → n ≤ length z₀ → n ≤ length has₀ → {a : ℕ × Float} {v' u' l' z' : List Float} {o' h' : List Bool} → a ≡ answer_for m cl
      → (m ≡ plot_number (any_shorter n (length values ∷ length ucl ∷ length lcl₀ ∷ length out₀ ∷ length z₀ ∷ length has₀ ∷ [])) found)
      × ((v' ≡ lent_after m plus_zero (take n values) values)
      × ((u' ≡ lent_after m plus_zero (uppers found) ucl)
      × ((l' ≡ lent_after m plus_zero (lowers found) lcl₀)
      × ((o' ≡ lent_after m false (outs found) out₀)
      × ((z' ≡ lent_after m plus_zero (zs found) z₀)
      × (h' ≡ lent_after m false (has_zs found) has₀))))))
      → (a ≡ answer_for (settled (sound theirs)) cl)
      × ((v' ≡ lent_after a.0 plus_zero theirs.values values₀)
      × ((u' ≡ lent_after a.0 plus_zero (uppers theirs) ucl₀)
      × ((l' ≡ lent_after a.0 plus_zero (lowers theirs) lcl₀)
      × ((o' ≡ lent_after a.0 false (outs theirs) out₀)
      × ((z' ≡ lent_after a.0 plus_zero (zs theirs) z₀)
      × (h' ≡ lent_after a.0 false (has_zs theirs) has₀))))))
  plotted-so m lcl₀ out₀ z₀ has₀ il io iz ih {a} said f =
      let fine = roomy (length lcl₀) (length out₀) (length z₀) (length has₀) il io iz ih in
      let number : m ≡ settled (sound theirs) = f.0 ∙ decided _ found fine ∙ ap (λ (g : Plot). settled (sound g)) found-is in
      let same : a.0 ≡ m = ap (λ (p : ℕ × Float). p.0) said ∙ answer-number m cl in (
        said ∙ ap (λ (k : ℕ). answer_for k cl) number,
        (
          slice_over plus_zero (sound theirs) (take n values) theirs.values theirs.values values₀ f.1.0 same number values-are v refl
              (omega (arith, many-values)),
          (
            slice_over plus_zero (sound theirs) (uppers found) (uppers theirs) theirs.sigmas ucl₀ f.1.1.0 same number (ap uppers found-is) s
                (many-sigmas ∙ sym (column-length (λ p. p.ucl) theirs ∙ many-values)) (omega (arith, many-sigmas)),
            (
              slice-same plus_zero lcl₀ f.1.1.1.0 same (ap lowers found-is),
              (
                slice-same false out₀ f.1.1.1.1.0 same (ap outs found-is),
                (
                  slice-same plus_zero z₀ f.1.1.1.1.1.0 same (ap zs found-is),
                  slice-same false has₀ f.1.1.1.1.1.1 same (ap has_zs found-is),
                ),
              ),
            ),
          ),
        ),
      )

-- ---- the samples' sizes stand in front of the slice of upper limits

module _ (counts : List ℕ) (n : ℕ) (sizes ucl₀ : List Float) (long : length sizes ≡ n) (room : n ≤ length ucl₀)
    {cl variance cl* variance* : Float} {ucl : List Float} (u : ucl ≡ at_front sizes ucl₀) (e : cl ≡ cl*) (v : variance ≡ variance*) where
  abbrev ours : Plot
  ours = plot_of cl* variance* counts sizes

  abbrev drawn : Plot
  drawn = plot_of cl variance counts (take n ucl)

  plot-is : drawn ≡ ours
  plot-is =
      let front : take n ucl ≡ sizes = ap (take n) u ∙ take_at sizes (drop (length sizes) ucl₀) n long in
      λ i. plot_of (e i) (v i) counts (front i)

  -- the points about them are the chart's
  pub finished : (wrong : Bool) (count : ℕ) (short : Bool) (values₀ lcl₀ : List Float) (out₀ : List Bool) (z₀ : List Float) (has₀ : List Bool)
      {a : ℕ × Float} {v' u' l' z' : List Float} {o' h' : List Bool} → first_of (ahead wrong count short) 0 ≡ 0
      → (a ≡ answer_for (settled (sound drawn)) cl)
      × ((v' ≡ lent_after a.0 plus_zero drawn.values values₀)
      × ((u' ≡ lent_after a.0 plus_zero (uppers drawn) ucl)
      × ((l' ≡ lent_after a.0 plus_zero (lowers drawn) lcl₀)
      × ((o' ≡ lent_after a.0 false (outs drawn) out₀)
      × ((z' ≡ lent_after a.0 plus_zero (zs drawn) z₀)
      × (h' ≡ lent_after a.0 false (has_zs drawn) has₀))))))
      → (a ≡ answer_for (first_of (refusals wrong count short ours) 0) cl*)
      × ((v' ≡ lent_after a.0 plus_zero ours.values values₀)
      × ((u' ≡ lent_after a.0 plus_zero (uppers ours) ucl₀)
      × ((l' ≡ lent_after a.0 plus_zero (lowers ours) lcl₀)
      × ((o' ≡ lent_after a.0 false (outs ours) out₀)
      × ((z' ≡ lent_after a.0 plus_zero (zs ours) z₀)
      × (h' ≡ lent_after a.0 false (has_zs ours) has₀))))))
  finished wrong count short values₀ lcl₀ out₀ z₀ has₀ none f = (
    f.0 ∙ ap₂ answer_for (ap (λ (g : Plot). settled (sound g)) plot-is ∙ sym (by-7 wrong count short ours none)) e,
    (
      slice-same plus_zero values₀ f.1.0 refl (ap (λ (g : Plot). g.values) plot-is),
      (
        slice_over plus_zero (sound drawn) (uppers drawn) (uppers ours) sizes ucl₀ f.1.1.0 refl
            (ap (λ (p : ℕ × Float). p.0) f.0 ∙ answer-number (settled (sound drawn)) cl) (ap uppers plot-is) u
            (sym (column-length (λ p. p.ucl) ours ∙ length-tabulate _ (length sizes))) (omega arith),
        (
          slice-same plus_zero lcl₀ f.1.1.1.0 refl (ap lowers plot-is),
          (
            slice-same false out₀ f.1.1.1.1.0 refl (ap outs plot-is),
            (
              slice-same plus_zero z₀ f.1.1.1.1.1.0 refl (ap zs plot-is),
              slice-same false has₀ f.1.1.1.1.1.1 refl (ap has_zs plot-is),
            ),
          ),
        ),
      ),
    ),
  )
