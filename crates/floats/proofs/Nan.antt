-- Only a NaN differs from itself. Assumes nothing.
use mathlib.Core.Path.{◌≡◌, refl, sym, ap, ◌∙◌}
use mathlib.Core.Bool.{Bool, true, false, not, ◌&&◌, true≢false}
use Prim.Native.Nat.{ℕ, ◌*◌}
use borrow.Author.Tests.{eq-eqb}
use lib.Dec.{T}
use lib.Ieee.{Float, nan, inf, fin, up, down, is_nan, ne, eq, level}

same-level : (a : ℕ) (s : Bool) → level s a s a ≡ true
same-level a true = ap (λ (t : Bool). t && true) (eq-eqb a a refl)
same-level a false = ap (λ (t : Bool). t && true) (eq-eqb a a refl)

pub is-nan : (x : Float) → ne x x ≡ true → x ≡ nan
unfolding ne eq
is-nan nan h = refl
is-nan (inf true) h = absurd (true≢false (sym h))
is-nan (inf false) h = absurd (true≢false (sym h))
is-nan (fin s m e) h = absurd (true≢false (sym h ∙ ap not (same-level (m * up e * down e) s)))

pub no_nan : (x : Float) → ne x x ≡ false → T (not (is_nan x))
unfolding ne eq is_nan
no_nan nan h = absurd (true≢false h)
no_nan (inf s) h = tt
no_nan (fin s m e) h = tt
