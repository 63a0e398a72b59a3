-- `too_short` meets its contract: some length is shorter. Assumes nothing.
use Rattle.std.proofs.Common.{rules, tests, false, ◌∙◌}
use Rattle.std.proofs.lemmas.Iterator.{YieldsList-from_slice}
use Rattle.std.proofs.lemmas.Iterator.Search.{any_from_yields_List}
use Prim.Native.Nat.{ℕ}
use lib.Dec.{ltb}
use Rattle.points.proofs.Plotting.{any-shorter}
use Rattle.points.proofs.too_short.Goals as goal

pub returns : goal.returns
returns c =
    let n = c.args.n in
    let lengths = c.args.lengths.now in
    any_from_yields_List (λ (l : ℕ). ltb l n) _ _ _ c.any.ensures.ran (YieldsList-from_slice lengths cc) (λ x b q k. search (rules, tests))
    ∙ any-shorter n false lengths
