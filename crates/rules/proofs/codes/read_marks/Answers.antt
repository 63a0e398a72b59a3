-- `rules::codes::read_marks` meets its contract: a set that a mask leaves as it is has the marks that are read by the mask. Assumes nothing.
use mathlib.Core.Path.{◌≡◌}
use native.Mathlib.Omega.{arith}
use lib.Bits.{bit_and}
use Rattle.rules.proofs.codes.read_marks.Goals as goal

pub returns-then-set : goal.returns-then-set
returns-then-set c =
    let same : bit_and c.args.set 391 ≡ c.args.set = omega arith in rw same at c.read.ensures

pub returns-then-set-2 : goal.returns-then-set-2
returns-then-set-2 c =
    let same : bit_and c.args.set 64 ≡ c.args.set = omega arith in rw same at c.read-then-set-2.ensures

pub returns-then-set-3 : goal.returns-then-set-3
returns-then-set-3 c =
    let same : bit_and c.args.set 12 ≡ c.args.set = omega arith in rw same at c.read-then-set-3.ensures
