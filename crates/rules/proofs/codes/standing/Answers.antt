-- `rules::codes::standing` meets its contract: its ands, ors and shifts are those of proofs/Bitwise.antt. Assumes nothing.
use mathlib.Core.Path.{ap, ◌∙◌}
use Rattle.laws.specs.Bits.{from_bits}
use Rattle.rules.proofs.Bitwise.{standing-is}
use Rattle.rules.proofs.codes.standing.Goals as goal

pub returns : goal.returns
returns c =
    let a = c.args in
    c.pack.ensures
    ∙ ap from_bits (standing-is a.c0 a.c1 a.c2 a.c3 a.c4 a.c5 a.c6 a.c7 a.c8 a.c9 a.c10 a.c11 a.c12 a.c13 a.c14)
