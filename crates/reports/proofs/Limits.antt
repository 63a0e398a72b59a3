-- The line of a series' limits: its numbers, its length, and that finite limits have bits. Assumes nothing.
use mathlib.Core.Path.{◌≡◌, refl, sym}
use mathlib.Core.Bool.{true, not, ◌&&◌, true≢false}
use mathlib.Core.List.{List, [], ◌∷◌, ◌++◌}
use Prim.Native.Nat.{ℕ, ◌+◌}
use native.Mathlib.Omega.{arith}
use lib.Dec.{T}
use lib.Ieee.{Float, nan, inf, fin, binary64, to_bits, is_nan}
use lib.ListN.{length, length-append}
use Rattle.laws.proofs.Bools.{both}
use Rattle.rules.specs.declared.Limits.{Limits}
use Rattle.floats.specs.Finite.{finite}
use Rattle.rules.specs.Finite.{finite_limits}
use Rattle.reports.specs.declared.text.Word.{Word}
use Rattle.reports.specs.declared.text.Word.TheVariants.{Decimal, Hex}
use Rattle.reports.specs.Text.{decimal, digits, spaced, line, l_line}
use Rattle.reports.specs.TextSteps.{words_of}
use Rattle.reports.proofs.Digits.{length_digits}

-- ---- no limit is a NaN

no_nan : (v : Float) → finite v ≡ true → T (not (is_nan v))
unfolding finite is_nan
no_nan nan h = absurd (true≢false (sym h))
no_nan (inf s) h = absurd (true≢false (sym h))
no_nan (fin s m e) h = tt

pub limits-no-nan : (l : Limits) → finite_limits l ≡ true
    → T (not (is_nan l.ucl)) × T (not (is_nan l.cl)) × T (not (is_nan l.lcl))
unfolding finite_limits
limits-no-nan l h =
    let outer = both (finite l.ucl && finite l.cl) (finite l.lcl) h in
    let inner = both (finite l.ucl) (finite l.cl) outer.0 in
    (no_nan l.ucl inner.0, no_nan l.cl inner.1, no_nan l.lcl outer.1)

-- ---- the line

-- the words that it has
abbrev pub words_in : ℕ → Limits → List Word
words_in series l = Decimal series ∷ Hex (to_bits binary64 l.ucl) ∷ Hex (to_bits binary64 l.cl) ∷ Hex (to_bits binary64 l.lcl) ∷ []

pub limits-line : (series : ℕ) (l : Limits) → line 76 (words_of (words_in series l)) ≡ l_line series l
unfolding words_of
limits-line series l = refl

hex-word : (x : ℕ) (after : List ℕ) → length (32 ∷ (digits 16 16 x ++ after)) ≡ 17 + length after
hex-word x after = omega (arith, length-append (digits 16 16 x) after, length_digits 16 16 x)

pub limits-length : (series : ℕ) (l : Limits) → length (l_line series l) ≡ length (decimal series) + 54
unfolding spaced
limits-length series l =
    let third : List ℕ = 32 ∷ (digits 16 16 (to_bits binary64 l.lcl) ++ (10 ∷ [])) in
    let second : List ℕ = 32 ∷ (digits 16 16 (to_bits binary64 l.cl) ++ third) in
    let first : List ℕ = 32 ∷ (digits 16 16 (to_bits binary64 l.ucl) ++ second) in
    omega (
      arith,
      length-append (decimal series) first,
      hex-word (to_bits binary64 l.ucl) second,
      hex-word (to_bits binary64 l.cl) third,
      hex-word (to_bits binary64 l.lcl) (10 ∷ []),
    )
