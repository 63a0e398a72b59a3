-- The marks that a lane shows, put together from the tests that are read off it and those whose windows fit. Assumes nothing.
use mathlib.Core.Path.{◌≡◌, ap, ◌∙◌, fun_ext}
use mathlib.Core.Bool.{Bool, ◌&&◌}
use mathlib.Core.List.{[], ◌∷◌}
use Prim.Native.Nat.{ℕ, ◌≤◌}
use native.Mathlib.Omega.{arith}
use lib.Bits.{bit_and}
use lib.ListN.{get_or}
use Rattle.laws.specs.Bits.{from_bits}
use Rattle.laws.specs.Lists.{tabulate_from}
use Rattle.laws.proofs.Lists.{get_d_tabulate}
use Rattle.sets.specs.declared.Test.{Test}
use Rattle.sets.specs.Sets.{tests, has, set_of}
use Rattle.sets.proofs.Sets.{and-set_of}
use Rattle.rules.specs.Tests.{window}
use Rattle.rules.specs.Columns.{fitting}
use Rattle.rules.proofs.Columns.{fits-window}
use Rattle.histories.specs.declared.Lane.{Lane}
use Rattle.histories.specs.Taking.{read, shown, marks_at}

-- the tests whose window is within so many values
abbrev pub fits : ℕ → ℕ
fits n = get_or (0 ∷ 1 ∷ 1 ∷ 17 ∷ 17 ∷ 49 ∷ 53 ∷ 53 ∷ 437 ∷ 439 ∷ 439 ∷ 439 ∷ 439 ∷ 439 ∷ 447 ∷ 511 ∷ []) n 0

fits-are : (n : ℕ) → n ≤ 15 → fits n ≡ fitting n
unfolding fitting set_of tests from_bits window tabulate_from
fits-are n h = get_d_tabulate fitting 16 n 0 (omega arith)

pub marks-read : (set : ℕ) (lane : Lane) → lane.seen ≤ 15 → bit_and set (bit_and (fits lane.seen) (set_of (read lane))) ≡ marks_at set lane
unfolding marks_at shown
marks-read set lane held =
    let n = lane.seen in
    ap (bit_and set) (ap (λ (m : ℕ). bit_and m (set_of (read lane))) (fits-are n held) ∙ and-set_of (fitting n) (read lane))
    ∙ and-set_of set (λ t. has (fitting n) t && read lane t)
    ∙ ap set_of (fun_ext (λ (t : Test). ap (λ (b : Bool). has set t && (b && read lane t)) (fits-window n t)))
