-- `twin::dramulenz_check` meets its contract: a word has room for the verdict. Assumes nothing.
use Prim.Native.Nat.{ℕ, ◌^◌, ◌<◌}
use mathlib.Core.Path.{sym, subst}
use Rattle.twin.specs.Answers.{terms_of}
use Rattle.twin.proofs.Packing.{check-fits}
use Rattle.twin.proofs.dramulenz_check.Goals as goal

pub pack-requires : goal.pack-requires
pack-requires c =
    let a = c.args in
    subst (λ (n : ℕ). n < 2 ^ 64) (sym c.check_in.ensures) (check-fits (terms_of a.ucl a.cl a.lcl) a.set a.values.now a.sheet.now)

pub pack-requires-2 : goal.pack-requires-2
pack-requires-2 c =
    let a = c.args in
    subst (λ (n : ℕ). n < 2 ^ 64) (sym c.check_in-2.ensures) (check-fits (terms_of a.ucl a.cl a.lcl) a.set a.values.now a.sheet.now)
