-- What a cut before position q does to marks: the tests are left whose window fits behind it. Nothing here has to be believed: the proofs
-- tie it to Marking.antt. Definitions only.
use Rattle.std.specs.Prelude.{cond, List, ℕ, ◌-◌, ltb, length, get_or}
use Rattle.std.specs.Int.Bits.{bit_and}
use Rattle.laws.specs.Lists.{tabulate}
use Rattle.rules.specs.Codes.{fits_at}

-- to the marks m of position i
abbrev pub cut_mark : ℕ → ℕ → ℕ → ℕ
cut_mark q i m = cond (ltb i q) m (cond (ltb (i - q) 14) (bit_and m (fits_at (i - q))) m)

-- to those of every position
unfoldable pub cut_marks : ℕ → List ℕ → List ℕ
cut_marks q ms = tabulate (λ i. cut_mark q i (get_or ms i 0)) (length ms)
