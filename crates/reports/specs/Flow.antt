-- The flow file: what any bytes say, a chart and its values or the number of a refusal (01, 'The report program', first paragraph).
-- Definitions only.
use Rattle.std.specs.Prelude.{Bool, false, not, cond, ◌||◌, List, [], ◌∷◌, ℕ, zero, suc, ◌*◌, ltb, Float, length}
use Rattle.std.specs.Float.{binary64}
use Rattle.std.specs.Float.Ieee.{of_bits}
use Rattle.groups.specs.Groups as groups
use Rattle.sets.specs.Sets.{too_large}
use Rattle.rules.specs.Marking.{most}
use Rattle.charts.specs.declared.Chart.{Chart}
use Rattle.charts.specs.Records.{kind_wrong, size_wrong, with_set, with_count, new_chart}

pub data Said : Type 0 where
  refused : ℕ → Said
  flow : Chart → List Float → Said

-- a number "by form then value": by form 12, by value the refusal that is given
abbrev pub number : ℕ → (ℕ → Bool) → List ℕ → ℕ → (ℕ → ℕ → Said) → Said
number why wrong s at rest = groups.number (refused 12) (refused why) (λ v. not (wrong v)) s at rest

-- ---- the values, "each its f64 bits as one number"

-- a value in front of what the rest says
abbrev pub before : Float → Said → Said
before v (refused why) = refused why
before v (flow c vs) = flow c (v ∷ vs)

-- From a place on: k values of the chart, by form 12, and then the end; "bytes left 12".
unfoldable pub values_from : List ℕ → Chart → ℕ → ℕ → Said
values_from s c zero at = cond (ltb at (length s)) (refused 12) (flow c [])
values_from s c (suc k) at = number 12 (λ v. false) s at (λ v next. before (of_bits binary64 v) (values_from s c k next))

-- ---- the whole

-- "count 5 if over 4,096 or count times size is over 2,048"
abbrev pub count_wrong : ℕ → ℕ → Bool
count_wrong size count = ltb most count || ltb 2048 (count * size)

-- "kind, size, set, count, then count times size values": "kind 12, size 1, set 4", count 5
unfoldable pub head_from : List ℕ → ℕ → Said
head_from s at =
    number 12 kind_wrong s at (λ kind p.
    number 1 (size_wrong kind) s p (λ size q.
    number 4 too_large s q (λ set r.
    number 5 (count_wrong size) s r (λ count end.
    values_from s (with_count (with_set (new_chart kind size) (record { mask = set })) count) (count * size) end))))

-- "over 24,576 bytes 12"
unfoldable pub flow_of : List ℕ → Said
flow_of s = cond (ltb 24576 (length s)) (refused 12) (head_from s 0)
