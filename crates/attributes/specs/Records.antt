-- The records of the P and the U chart, and the calls that make one and add a sample (02, R-2). Definitions only.
use Rattle.std.specs.Prelude.{◌≡◌, ℕ, ◌+◌, Bool, false, cond, not, ◌||◌, List, [], ◌∷◌, ◌++◌, ◌==◌, nat_le, nat_lt, slice_set, Float, Result}
use Rattle.laws.specs.Refusals.{first_of, each}
use Rattle.numbers.specs.Numbers.{answered}
use Rattle.points.specs.Plotting as points
use Rattle.points.specs.declared.Refusal as plot_refused
use Rattle.attributes.specs.declared.Refusal.{Refusal}
use Rattle.attributes.specs.declared.Refusal.TheVariants as refusing
use Rattle.attributes.specs.declared.Centre.{Centre}
use Rattle.attributes.specs.declared.Centre.TheVariants.{Computed, Given}
use Rattle.attributes.specs.declared.Chart.{Chart}
use Rattle.attributes.specs.Kinds.{Kind, proportions, rates}

abbrev pub PChart : Type 0
PChart = Chart ℕ

abbrev pub UChart : Type 0
UChart = Chart Float

-- ---- the number of each refusal, and the number and the record that each answer stands for

abbrev pub number : Refusal → ℕ
number refusing.Full = 5
number refusing.TooShort = 6
number refusing.Overflow = 7
number refusing.TooFew = 8
number refusing.Record = 14
number refusing.Count = 16
number refusing.NoSize = 17
number refusing.Damaged = 18
number refusing.Units = 19
number refusing.Centre = 20

-- a refusal of plotting keeps its number
abbrev pub plotting : plot_refused.Refusal → Refusal → Type 0
plotting why said = number said ≡ points.number why

-- "A refusal gives back the record unchanged" (01, Order)
abbrev pub changed : {S : Type 0} → Chart S → Result (Chart S) Refusal → ℕ × Chart S
changed before = answered number (λ c. c) before

-- ---- "making: 20 centre not allowed"

-- with no sample yet, and a centre to be computed: what a refused one stands for too
abbrev pub new_chart : {S : Type 0} → Chart S
new_chart = record { centre = Computed; count = 0; size = record {} }

abbrev pub new_p : PChart
new_p = new_chart

abbrev pub new_u : UChart
new_u = new_chart

unfoldable pub with_centre : {S : Type 0} → Kind S → Float → ℕ × Chart S
with_centre k x = first_of ((not (k.allowed x), (20, new_chart)) ∷ []) (0, record { centre = Given x; count = 0; size = record {} })

abbrev pub with_centre_p : Float → ℕ × PChart
with_centre_p = with_centre proportions

abbrev pub with_centre_u : Float → ℕ × UChart
with_centre_u = with_centre rates

-- ---- 14: "a centre not allowed, a count over 4,096 or over its slices". The lengths are those of the slices of counts and of sizes.

-- a computed centre is none that could be refused
unfoldable pub centre_wrong : (Float → Bool) → Centre → Bool
centre_wrong allowed Computed = false
centre_wrong allowed (Given x) = not (allowed x)

unfoldable pub record_wrong : Bool → ℕ → ℕ → ℕ → Bool
record_wrong centre count counts sizes = centre || nat_lt 4096 count || nat_lt counts count || nat_lt sizes count

abbrev pub chart_wrong : {S : Type 0} → Kind S → Chart S → ℕ → ℕ → Bool
chart_wrong k c counts sizes = record_wrong (centre_wrong k.allowed c.centre) c.count counts sizes

-- ---- "adding: 14, 16 .., 17 .., 18 .., 19 .., 5, 6"

-- 5: 4,096 samples are held; 6: a slice has no room for one more
abbrev pub full : ℕ → ℕ → ℕ → List (Bool × ℕ)
full count counts sizes = (nat_le 4096 count, 5) ∷ (nat_le counts count || nat_le sizes count, 6) ∷ []

abbrev pub add_refusals : Bool → List (Bool × ℕ) → ℕ → ℕ → ℕ → List (Bool × ℕ)
add_refusals wrong sample count counts sizes = (wrong, 14) ∷ sample ++ full count counts sizes

-- a record as it was, with the number of the first refusal that applies, or else the record with one sample more
abbrev pub add_of : {A : Type 0} → List (Bool × ℕ) → A → A → ℕ × A
add_of refusals before after = first_of (each (λ n. (n, before)) refusals) (0, after)

-- one sample more
abbrev pub grown : {S : Type 0} → Chart S → Chart S
grown c = record { centre = c.centre; count = c.count + 1; size = c.size }

unfoldable pub add : {S : Type 0} → Kind S → Chart S → ℕ → ℕ → ℕ → S → ℕ × Chart S
add k c counts sizes damaged size =
    add_of (add_refusals (chart_wrong k c counts sizes) (k.sample damaged size) c.count counts sizes) c (grown c)

abbrev pub add_p : PChart → ℕ → ℕ → ℕ → ℕ → ℕ × PChart
add_p = add proportions

abbrev pub add_u : UChart → ℕ → ℕ → ℕ → Float → ℕ × UChart
add_u = add rates

-- A slice of samples after the number n was answered: a sample that was taken stands at place count. A refusal leaves it as it came.
unfoldable pub kept_after : {A : Type 0} → ℕ → ℕ → A → List A → List A
kept_after n count x old = cond (n == 0) (slice_set old count x) old
