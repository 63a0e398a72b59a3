-- `lists::pass_numbers` meets its contract. The invariant of its loop: what is found of those left is what is found of all. Assumes nothing.
use Prim.Native.Nat.{◌-◌}
use mathlib.Core.Path.{◌≡◌}
use Rattle.lists.specs.Reading.{numbers_from}
use Rattle.lists.proofs.pass_numbers.Given as goal

abbrev pub invariant-loop : goal.invariant-loop
invariant-loop l =
    (numbers_from l.list l.item (l.n - l.counter) l.next).1 ≡ (numbers_from l.list l.item l.n l.at).1
