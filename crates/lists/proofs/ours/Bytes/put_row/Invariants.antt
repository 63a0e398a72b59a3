-- `lists::ours::Bytes::put_row` meets its contract: those before the index were put. Assumes nothing.
use mathlib.Core.Path.{◌≡◌}
use mathlib.Core.List.{◌++◌, map}
use lib.ListN.{take}
use Rattle.lists.specs.Ours.{in_groups}
use Rattle.lists.proofs.ours.Bytes.put_row.Given as goal

abbrev pub invariant-loop-x : goal.invariant-loop-x
invariant-loop-x g l =
    l.self ≡ l.initial.self ++ in_groups (map g.T.Listed.listed (take l.x-index l.xs))
