-- `groups::size` meets its contract: one is counted for the groups that are left. Assumes nothing.
use native.Mathlib.Omega.{arith}
use mathlib.Core.Path.{◌≡◌, ap}
use lib.ListN.{length}
use Rattle.groups.specs.Groups.{groups}
use Rattle.groups.proofs.Strings.{groups-one, groups-more, groups-some, groups-most}
use Rattle.groups.proofs.size.Goals as goal

pub overflow_add-n : goal.overflow_add-n
overflow_add-n c =
    omega (arith, groups-most c.args.x 9 (omega arith), groups-some c.loop-left.left)

pub loop-left-preserved : goal.loop-left-preserved
loop-left-preserved c =
    omega (arith, ap length (groups-more c.loop-left.left c.loop-left-test.true))

pub returns : goal.returns
returns c =
    let all : c.loop-left.n ≡ length (groups c.args.x) =
    omega (arith, ap length (groups-one c.loop-left.left c.loop-left-test.false)) in
    (all, omega (arith, groups-most c.args.x 9 (omega arith)))
