-- The marks of a set that has no test but the first: whether the value lies beyond the limits. Assumes nothing.
use mathlib.Core.Path.{◌≡◌, sym, ap, ap₂, ◌∙◌}
use mathlib.Core.Bool.{Bool, ◌||◌, and-true}
use mathlib.Core.List.{List}
use Prim.Native.Nat.{ℕ, suc, ◌%◌, ◌<◌}
use native.Mathlib.Nat.{mod-eq_of_lt}
use native.Mathlib.Omega.{arith}
use lib.Bits.{bit_and, and_mod, and_le_l}
use lib.Dec.{leb-suc-suc, leb-zero}
use lib.Ieee.{Float, nan}
use lib.ListN.{get_or}
use Rattle.laws.specs.Bools.{every, one}
use Rattle.laws.specs.Bits.{from_bits}
use Rattle.laws.proofs.Bits.{one-lt}
use Rattle.sets.specs.declared.Test.{Test}
use Rattle.sets.specs.declared.Test.TheVariants.{BeyondLimits}
use Rattle.sets.specs.Sets.{tests, set_of}
use Rattle.sets.proofs.Sets.{and-set_of}
use Rattle.stops.specs.Cuts.{unbroken}
use Rattle.rules.specs.declared.Lines.{Lines}
use Rattle.rules.specs.Tests.{over, under, window, shows}
use Rattle.rules.specs.Marking.{newest_first, stands, marks_at}

-- of the number of some tests only the first counts
and_first : (set : ℕ) (p : Test → Bool) → set < 2 → bit_and set (set_of p) ≡ bit_and set (one (p BeyondLimits))
unfolding set_of tests from_bits
and_first set p h =
    let low : bit_and set (set_of p) < 2 = omega (arith, and_le_l set (set_of p)) in
    let first : set_of p % 2 ≡ one (p BeyondLimits) = omega (arith, one-lt (p BeyondLimits)) in
    sym (mod-eq_of_lt low) ∙ and_mod set (set_of p) 1 ∙ ap₂ bit_and (mod-eq_of_lt h) first

-- the first test stands where the value lies beyond the limits
first-stands : (l : Lines) (values : List Float) (i : ℕ)
    → stands l (newest_first unbroken values (suc i)) BeyondLimits ≡ (over l.ucl (get_or values i nan) || under l.lcl (get_or values i nan))
unfolding stands window shows newest_first every
first-stands l values i = rw (leb-suc-suc, leb-zero) (and-true (over l.ucl (get_or values i nan) || under l.lcl (get_or values i nan)))

pub marks-single : (l : Lines) (set : ℕ) (values : List Float) (i : ℕ) → set < 2
    → bit_and set (one (over l.ucl (get_or values i nan) || under l.lcl (get_or values i nan))) ≡ marks_at unbroken l set values i
unfolding marks_at
marks-single l set values i h =
    ap (λ (b : Bool). bit_and set (one b)) (sym (first-stands l values i))
    ∙ sym (and_first set (stands l (newest_first unbroken values (suc i))) h)
    ∙ and-set_of set (stands l (newest_first unbroken values (suc i)))
