-- `rules::codes::before` meets its contract. Assumes nothing.
use mathlib.Core.Path.{◌≡◌, refl, ap}
use mathlib.Core.List.{List, ◌∷◌}
use Prim.Native.Nat.{ℕ, zero, suc, ◌-◌, ◌<◌}
use native.Mathlib.Omega.{arith}
use lib.Ieee.{Float, nan}
use lib.ListN.{get_or}
use Rattle.rules.proofs.codes.before.Goals as goal

pub returns-then-i-eq0 : goal.returns-then-i-eq0
returns-then-i-eq0 c =
    let e : c.args.i ≡ 0 = omega arith in rw e refl

one-behind : (u : Float) (vs : List Float) (i : ℕ) → 0 < i → get_or vs (i - 1) nan ≡ get_or (u ∷ vs) i nan
one-behind u vs zero h = absurd (omega arith)
one-behind u vs (suc i) h = let e : suc i - 1 ≡ i = omega arith in ap (λ (k : ℕ). get_or vs k nan) e

pub returns : goal.returns
returns c =
    one-behind (get_or c.args.values.now 0 nan) c.args.values.now c.args.i (omega arith)
