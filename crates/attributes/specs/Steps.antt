-- What the code's inner steps answer. A reader need not believe it: no contract of a public function cites it. Definitions only.
use Rattle.std.specs.Prelude.{◌≡◌, Result, ℕ, ◌<◌, ◌≤◌, Bool, true, not, List, [], ◌∷◌, length, ◌==◌, slice_index, slice_index_or, Float}
use Rattle.std.specs.Float.{nan, binary64}
use Rattle.std.specs.Float.Ieee.{div}
use Rattle.laws.specs.Lists.{tabulate}
use Rattle.numbers.specs.Numbers.{numbered}
use Rattle.attributes.specs.declared.Refusal.{Refusal}
use Rattle.attributes.specs.declared.Chart.{Chart}
use Rattle.attributes.specs.Kinds.{Kind}
use Rattle.attributes.specs.Records.{number, full}
use Rattle.attributes.specs.Evaluating.{sigma_of}

-- the number of what tests found
abbrev pub tested : Result (Unit {0}) Refusal → ℕ
tested = numbered number

-- adding, where it is known what the sample's own tests found
abbrev pub adding : Bool → Result (Unit {0}) Refusal → ℕ → ℕ → ℕ → List (Bool × ℕ)
adding wrong sample count counts sizes = (wrong, 14) ∷ (not (tested sample == 0), tested sample) ∷ full count counts sizes

-- evaluating: the refusals ahead of the arithmetic
abbrev pub ahead : Bool → ℕ → Bool → List (Bool × ℕ)
ahead wrong count short = (wrong, 14) ∷ ((count == 0), 8) ∷ (short, 6) ∷ []

-- sigmas in two steps: variances over sizes, and their roots
abbrev pub variances_of : Float → List Float → List Float
variances_of variance sizes = tabulate (λ i. div binary64 variance (slice_index_or sizes i nan)) (length sizes)

abbrev pub roots_of : List Float → List Float
roots_of variances = tabulate (λ i. sigma_of (slice_index_or variances i nan)) (length variances)

-- each of the first n counts is at most 4,294,967,295
abbrev pub SmallTo : ℕ → List ℕ → Type 0
SmallTo n counts = (i : ℕ) → i < n → slice_index counts i ≤ 4294967295

-- each of the first n sizes may be that of a sample
abbrev pub FineTo : {S : Type 0} → Kind S → ℕ → List S → Type 0
FineTo k n sizes = (i : ℕ) → i < n → k.small (slice_index_or sizes i k.nothing) ≡ true

-- what a record tells of its slices that is not wrong
pub record Fine {S : Type 0} (k : Kind S) (c : Chart S) (counts : List ℕ) (sizes : List S) : Type 0 where
  pub few : c.count ≤ 4096
  pub in-counts : c.count ≤ length counts
  pub in-sizes : c.count ≤ length sizes
  pub counts-fit : SmallTo c.count counts
  pub sizes-fit : FineTo k c.count sizes

abbrev pub Small : List ℕ → Type 0
Small counts = SmallTo (length counts) counts
