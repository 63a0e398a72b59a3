-- `evidence::evidence` meets its contract: each return is the part that the definition names. Assumes nothing.
use mathlib.Core.Path.{refl}
use mathlib.Core.Bool.{true, false}
use Prim.Native.Nat.{◌≤◌}
use native.Mathlib.Omega.{arith}
use borrow.Author.Rules.{rules}
use Rattle.evidence.proofs.Spans.{main-part, main-none, second-part, second_none, no-series, part_of}
use Rattle.evidence.proofs.evidence.Goals as goal

pub returns-then-series-eq0 : goal.returns-then-series-eq0
returns-then-series-eq0 c =
    part_of c.args.main c.args.dispersion false _ _ _ _ _ _ _ c.window_at.ensures c.unwrap_or.ensures
    (record { block = refl; place = search rules; values = search rules })
    (main-part _ _ _ _ _ _ c.if-series-eq0.true) (main-none _ _ _ _ _ _ c.if-series-eq0.true)

pub returns-then-series-eq1 : goal.returns-then-series-eq1
returns-then-series-eq1 c =
    part_of c.args.main c.args.dispersion true _ _ _ _ _ _ _ c.window_at-then-series-eq1.ensures c.unwrap_or-then-series-eq1.ensures
    (record { block = refl; place = search rules; values = search rules })
    (second-part _ _ _ _ _ _ c.if-series-eq1.true) (second_none _ _ _ _ _ _ c.if-series-eq1.true)

pub returns : goal.returns
returns c =
    let neither : 2 ≤ c.args.series = omega (arith, c.if-series-eq0.false, c.if-series-eq1.false) in
    rw (no-series _ _ _ _ _ _ neither)
    (record { block = refl; place = search rules; values = search rules })
