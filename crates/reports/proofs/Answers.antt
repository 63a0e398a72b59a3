-- Two answers with one number and the same length are one answer. Assumes nothing.
use mathlib.Core.Path.{◌≡◌}
use Prim.Native.Nat.{ℕ}
use Rattle.std.specs.Prelude.{Result}
use Rattle.groups.specs.declared.TooShort.{TooShort}
use Rattle.groups.proofs.Answers.{written_one}
use Rattle.reports.specs.Report.{reported}

pub reported-one : (a b : Result ℕ TooShort) → reported a ≡ reported b → a ≡ b
reported-one = written_one
