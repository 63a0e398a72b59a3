-- `floats::of_bits` meets its contract: past its sign, a pattern is a NaN's exactly if it is above that of infinity. Assumes nothing.
use mathlib.Core.Path.{◌≡◌, refl, sym, subst, ◌∙◌}
use mathlib.Core.Bool.{Bool, true, not, false≢true}
use Prim.Native.Nat.{◌*◌, ◌%◌}
use native.Mathlib.Omega.{arith}
use lib.Dec.{T}
use lib.Arith.{le→nltb}
use lib.Bits.{and_mask}
use lib.Ieee.{Float, nan, inf, fin, is_nan, binary64, hid, ones, top, of_bits, div}
use lib.Ieee.Bits.{nan_bits_is, nan_bits_above}
use borrow.Author.Tests.{lt-ltb}
use Rattle.floats.proofs.of_bits.Goals as goal

is-nan : (v : Float) → is_nan v ≡ true → nan ≡ v
unfolding is_nan
is-nan nan h = refl
is-nan (inf s) h = absurd (false≢true h)
is-nan (fin s m e) h = absurd (false≢true h)

pub returns-then-pattern-gt9218868437227405312 : goal.returns-then-pattern-gt9218868437227405312
unfolding div of_bits
returns-then-pattern-gt9218868437227405312 c =
    let w = c.args.pattern in
    is-nan (of_bits binary64 w)
    (sym (nan_bits_is binary64 w) ∙ nan_bits_above binary64 w
    ∙ lt-ltb (ones binary64 * hid binary64) (w % top binary64) (omega (arith, c.if-pattern-gt9218868437227405312.true, and_mask w 63)))

pub float_from_bits-result : goal.float_from_bits-result
float_from_bits-result c =
    let w = c.args.pattern in
    subst (λ (b : Bool). T (not b)) (sym (nan_bits_above binary64 w))
    (le→nltb (ones binary64 * hid binary64) (w % top binary64) (omega (arith, and_mask w 63)))
