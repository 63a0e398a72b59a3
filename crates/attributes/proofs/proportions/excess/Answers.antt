-- `proportions::excess` meets its contract: a sample is right where no bit is above the lowest 32. Assumes nothing.
use Rattle.std.proofs.Common.{◌+◌, ◌-◌, ◌^◌, ◌%◌, arith}
use Rattle.attributes.proofs.Samples.{bits-tell}
use Rattle.attributes.proofs.proportions.excess.Goals as goal

pub returns : goal.returns
returns c =
    let d = c.args.damaged in
    let n = c.args.inspected in
    let rest = (n + (2 ^ 64 - d)) % 2 ^ 64 in
    let less = (n + (2 ^ 64 - 1)) % 2 ^ 64 in
    bits-tell d n rest less (omega arith) (omega arith) (omega (arith, c.ranges.damaged.fits, c.ranges.inspected.fits)) (omega (arith, c.ranges.inspected.fits))
