-- How far the replay of a list has come. Definitions only.
use Rattle.std.specs.Prelude.{◌≡◌, Result, Ok, Err, IfOk, Bool, cond, ℕ, ◌+◌}
use Rattle.lists.specs.declared.Fault.{Fault}
use Rattle.lists.specs.declared.run.Run.{Run}
use Rattle.lists.specs.declared.run.Case.{Case}
use Rattle.lists.specs.declared.run.Ended.{Ended}
use Rattle.lists.specs.declared.run.Ended.TheVariants.{NoList}
use Rattle.lists.specs.Outcomes.{differs}

-- the number, or one more
abbrev pub counted : ℕ → Bool → ℕ
counted n more = n + cond more 1 0

-- past a case
abbrev pub run_past : Run → Case → Run
run_past run case = record { at = case.next; differ = counted run.differ (differs case.outcome) }

-- past a case, unless it cannot be told; or past a fault, where the run ends
abbrev pub Past : Run → Result Case Fault → Result Run Ended → Type 0
Past run (Ok case) result = IfOk result (λ on. on ≡ run_past run case)
Past run (Err fault) result = result ≡ Err (NoList fault)
