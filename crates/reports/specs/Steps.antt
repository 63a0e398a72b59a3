-- What the parts of the flow file's reader find. Nothing here has to be believed: the proofs tie it to Flow.antt. Definitions only.
use Rattle.std.specs.Prelude.{false, ◌≡◌, List, ℕ, ◌*◌, ◌≤◌, Float, take, Result, Ok, Err}
use Rattle.groups.specs.declared.Read.{Read}
use Rattle.charts.specs.declared.Chart.{Chart}
use Rattle.charts.specs.Records.{own_wrong}
use Rattle.reports.specs.declared.flow.Refusal.{Refusal}
use Rattle.reports.specs.declared.flow.Refusal.TheVariants as refusing
use Rattle.reports.specs.Flow.{Said, refused, flow, values_from}

-- how many values a chart has
abbrev pub size : Chart → ℕ
size c = c.count * c.size

-- a record that evaluating takes, of at most 2,048 values and with no stops
pub record Legal (c : Chart) : Type 0 where
  pub own : own_wrong c ≡ false
  pub few : size c ≤ 2048
  pub unstopped : c.stops ≡ 0

-- ---- 01's number of each refusal of the file

abbrev pub number : Refusal → ℕ
number refusing.Size = 1
number refusing.Set = 4
number refusing.Count = 5
number refusing.Form = 12

-- ---- what is said, known the numbers at the head

abbrev pub after_head : List ℕ → Result (Read Chart) Refusal → Said
after_head s (Err why) = refused (number why)
after_head s (Ok head) = values_from s head.value (size head.value) head.next

abbrev pub LegalHead : Result (Read Chart) Refusal → Type 0
LegalHead (Err why) = Unit {0}
LegalHead (Ok head) = Legal head.value

-- known that the values were read into a room that they fill
abbrev pub said_by : Chart → List Float → Result (Unit {0}) Refusal → Said
said_by c values (Err why) = refused (number why)
said_by c values (Ok done) = flow c values

-- known the chart and the values
abbrev pub said_flow : List Float → Result Chart Refusal → Said
said_flow values (Err why) = refused (number why)
said_flow values (Ok c) = flow c (take (size c) values)

abbrev pub LegalFlow : Result Chart Refusal → Type 0
LegalFlow (Err why) = Unit {0}
LegalFlow (Ok c) = Legal c
