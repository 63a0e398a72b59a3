-- `twin::dramulenz_write` meets its contract: a word has room for the answer. Assumes nothing.
use Prim.Native.Nat.{ℕ, ◌^◌, ◌<◌}
use mathlib.Core.Path.{sym, subst}
use Rattle.twin.specs.Answers.{terms_of}
use Rattle.twin.proofs.Packing.{write-fits}
use Rattle.twin.proofs.dramulenz_write.Goals as goal

pub pack_length-requires : goal.pack_length-requires
pack_length-requires c =
    let a = c.args in
    subst (λ (n : ℕ). n < 2 ^ 64) (sym c.write_in.ensures.answer) (write-fits (terms_of a.ucl a.cl a.lcl) a.set a.values.now a.sheet.now)

pub pack_length-requires-2 : goal.pack_length-requires-2
pack_length-requires-2 c =
    let a = c.args in
    subst (λ (n : ℕ). n < 2 ^ 64) (sym c.write_in-2.ensures.answer) (write-fits (terms_of a.ucl a.cl a.lcl) a.set a.values.now a.sheet.now)
