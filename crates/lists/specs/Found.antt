-- What reading at a place of a list finds: something and the place just past it, or where and why bytes are no list. Definitions only.
use Rattle.std.specs.Prelude.{ℕ, Result, Ok, Err}
use Rattle.groups.specs.declared.Read.{Read}
use Rattle.lists.specs.declared.Item.{Item}
use Rattle.lists.specs.declared.Why.{Why}
use Rattle.lists.specs.declared.Fault.{Fault}

abbrev pub read : {A : Type 0} → A → ℕ → Result (Read A) Fault
read v next = Ok (record { value = v; next = next })

abbrev pub wrong : {A : Type 0} → ℕ → Item → Why → Result A Fault
wrong at item why = Err (record { at = at; item = item; why = why })

-- what the rest finds, told what was read and the place past it
abbrev pub onward : {A B : Type 0} → Result (Read A) Fault → (A → ℕ → Result B Fault) → Result B Fault
onward (Ok found) rest = rest found.value found.next
onward (Err fault) rest = Err fault
