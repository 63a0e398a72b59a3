-- What stands before the samples of a chart case, from its kind on (oracle/FORMAT.md, 'A chart case'). Definitions only.
use Rattle.std.specs.Prelude.{Result, cond, List, ℕ, eqb}
use Rattle.groups.specs.declared.Read.{Read}
use Rattle.lists.specs.declared.Fault.{Fault}
use Rattle.lists.specs.declared.Item.TheVariants.{Kind, Size, Set, Samples}
use Rattle.lists.specs.Found.{read, onward}
use Rattle.lists.specs.Reading.{small_from}
use Rattle.replay_charts.specs.declared.head.Head.{Head}

-- "size: 1 for kind 1, 2 to 25 for kinds 2 and 3"
unfoldable pub size_from : List ℕ → ℕ → ℕ → Result (Read ℕ) Fault
size_from list kind at = cond (eqb kind 1) (small_from list Size 1 1 at) (small_from list Size 2 25 at)

-- "kind", 1 to 3; "size"; "set, 0 to 511"; "c, the number of samples, 0 to 4,096"
unfoldable pub head_from : List ℕ → ℕ → Result (Read Head) Fault
head_from list at =
    onward (small_from list Kind 1 3 at) (λ kind second.
    onward (size_from list kind second) (λ size third.
    onward (small_from list Set 0 511 third) (λ set fourth.
    onward (small_from list Samples 0 4096 fourth) (λ count next. read (record { kind = kind; size = size; set = set; count = count }) next))))
