-- The record of a chart, and the calls that make one and change one (01, 'The charts'; 'Numbers a call may give back', rows 1, 2, 4, 5, 6
-- and 14, and Order; 02, R-1: the count of stops; R-6: a new chart's set). Definitions only.
use Rattle.std.specs.Prelude.{Bool, cond, not, ◌||◌, List, [], ◌∷◌, ◌++◌, ℕ, ◌+◌, ◌*◌, leb, ltb, eqb, Float, length, take, drop, Result}
use Rattle.laws.specs.Refusals.{first_of}
use Rattle.laws.specs.Front.{at_front}
use Rattle.numbers.specs.Numbers.{answered}
use Rattle.sets.specs.declared.RuleSet.{RuleSet}
use Rattle.sets.specs.Sets.{too_large}
use Rattle.rules.specs.Marking.{most}
use Rattle.floats.specs.Finite.{all_finite}
use Rattle.charts.specs.declared.Chart.{Chart}
use Rattle.charts.specs.declared.Refusal.{Refusal}
use Rattle.charts.specs.declared.Refusal.TheVariants as refusing

-- ---- 01's number of each refusal, and the number and the record that each answer stands for

abbrev pub number : Refusal → ℕ
number refusing.Size = 1
number refusing.Length = 2
number refusing.NotFinite = 3
number refusing.Set = 4
number refusing.Full = 5
number refusing.TooShort = 6
number refusing.Overflow = 7
number refusing.TooFew = 8
number refusing.Record = 14
number refusing.Stops = 15
number refusing.WidthMode = 21

-- "A refusal gives back the record unchanged"
abbrev pub changed : Chart → Result Chart Refusal → ℕ × Chart
changed before = answered number (λ c. c) before

-- ---- "Kind 1 is individual-MR, size 1. Kinds 2 and 3 are X-bar-R and X-bar-S, size 2 to 25."

-- one thing for each kind
unfoldable pub by_kind : {A : Type 0} → ℕ → A → A → A → A
by_kind kind individuals ranges deviations = cond (eqb kind 1) individuals (cond (eqb kind 2) ranges deviations)

abbrev pub kind_wrong : ℕ → Bool
kind_wrong kind = ltb kind 1 || ltb 3 kind

abbrev pub subgroup_wrong : ℕ → Bool
subgroup_wrong size = ltb size 2 || ltb 25 size

unfoldable pub size_wrong : ℕ → ℕ → Bool
size_wrong kind size = by_kind kind (not (eqb size 1)) (subgroup_wrong size) (subgroup_wrong size)

-- ---- 14: "kind not 1 to 3, size wrong, count over 4,096, set over 511, or count times size over the slice"

-- all of it but for the slice
unfoldable pub own_wrong : Chart → Bool
own_wrong c = kind_wrong c.kind || size_wrong c.kind c.size || ltb most c.count || too_large c.set.mask

-- where the values have so much room
unfoldable pub record_wrong : Chart → ℕ → Bool
record_wrong c room = own_wrong c || ltb room (c.count * c.size)

-- ---- a chart with one number changed

abbrev pub with_set : Chart → RuleSet → Chart
with_set c set = record { kind = c.kind; size = c.size; count = c.count; set = set; stops = c.stops }

abbrev pub with_count : Chart → ℕ → Chart
with_count c count = record { kind = c.kind; size = c.size; count = count; set = c.set; stops = c.stops }

abbrev pub with_stops : Chart → ℕ → Chart
with_stops c stops = record { kind = c.kind; size = c.size; count = c.count; set = c.set; stops = stops }

-- ---- "New chart: 14 for the kind, 1."

-- "A new chart's set becomes nelson." (02, R-6)
abbrev pub new_set : RuleSet
new_set = record { mask = 255 }

-- with a count of stops that is "0 when new" (02, R-1)
abbrev pub new_chart : ℕ → ℕ → Chart
new_chart kind size = record { kind = kind; size = size; count = 0; set = new_set; stops = 0 }

-- "all zero for a refused new chart"
abbrev pub no_chart : Chart
no_chart = record { kind = 0; size = 0; count = 0; set = record { mask = 0 }; stops = 0 }

unfoldable pub new_of : ℕ → ℕ → ℕ × Chart
new_of kind size =
    first_of
    ((kind_wrong kind, (14, no_chart)) ∷ (size_wrong kind size, (1, no_chart)) ∷ [])
    (0, new_chart kind size)

-- ---- "Changing a chart's set, with no slice: 14, 4."

unfoldable pub with_set_of : Chart → RuleSet → ℕ × Chart
with_set_of c set =
    first_of
    ((own_wrong c, (14, c)) ∷ (too_large set.mask, (4, c)) ∷ [])
    (0, with_set c set)

-- ---- the count of stops, "set by a call checking 14 alone" (02, R-1)

unfoldable pub with_stops_of : Chart → ℕ → ℕ × Chart
with_stops_of c stops = first_of ((own_wrong c, (14, c)) ∷ []) (0, with_stops c stops)

-- ---- "Add: 14, 2, 3, 5, 6."

unfoldable pub add_of : Chart → List Float → List Float → ℕ × Chart
add_of c values sample =
    first_of
    ((record_wrong c (length values), (14, c))
    ∷ (not (eqb (length sample) c.size), (2, c))
    ∷ (not (all_finite sample), (3, c))
    ∷ (leb most c.count, (5, c))
    ∷ (ltb (length values) (c.count * c.size + c.size), (6, c))
    ∷ [])
    (0, with_count c (c.count + 1))

-- "Adding appends one sample, as to a list": the values after the number n was answered. A refusal leaves them as they came.
unfoldable pub values_after : ℕ → Chart → List Float → List Float → List Float
values_after n c sample old = cond (eqb n 0) (take (c.count * c.size) old ++ at_front sample (drop (c.count * c.size) old)) old
