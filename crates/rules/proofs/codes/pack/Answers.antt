-- `rules::codes::pack` meets its contract: its masks and shifts are those of proofs/Bitwise.antt. Assumes nothing.
use Rattle.rules.proofs.Bitwise.{pack-is}
use Rattle.rules.proofs.codes.pack.Goals as goal

pub returns : goal.returns
returns c =
    let a = c.args in
    pack-is a.c0 a.all5 a.all8 a.all9 a.all15 a.turns a.two a.four
