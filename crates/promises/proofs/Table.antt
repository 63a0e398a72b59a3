-- 01's 'Table to be proved': its fourteen rows as one table, with one proof over it. A row is held to what the promises cite, with answers
-- and lent slices. Floats are written in halves or as their bits, and compared by their bits. Assumes nothing.
use mathlib.Core.Path.{◌≡◌, refl}
use mathlib.Core.Bool.{Bool, true, false, ◌&&◌, cond}
use mathlib.Core.List.{List, [], ◌∷◌, ◌++◌, map}
use Prim.Native.Nat.{ℕ, zero, suc}
use lib.Dec.{eqb}
use lib.Ieee.{Float, nan, binary64, of_bits, to_bits, of_int, round, add, sub, mul, div, lt, le}
use lib.IntN.{pos}
use lib.ListN.{length, replicate}
use Rattle.std.specs.Prelude.{Result, Ok, Err}
use Rattle.laws.specs.Bools.{every, count}
use Rattle.laws.specs.Bits.{has_bit, from_bits}
use Rattle.laws.specs.Lists.{tabulate_from}
use Rattle.laws.specs.Front.{at_front_if_room, room_for, lent_after}
use Rattle.laws.specs.Refusals.{first_of, each}
use Rattle.groups.specs.declared.Read.{Read}
use Rattle.groups.specs.declared.Fault.{Fault}
use Rattle.groups.specs.Groups.{groups, number_at}
use Rattle.root.specs.declared.NoRoot.{NoRoot}
use Rattle.root.specs.Root.{root_of}
use Rattle.stops.specs.Stops.{stop_at, cut_at, rising, stops_wrong}
use Rattle.sets.specs.Sets.{bit_of, tests, has, set_of}
use Rattle.floats.specs.Finite.{finite, all_finite}
use Rattle.floats.specs.Values.{plus_zero}
use Rattle.rules.specs.declared.Limits.{Limits}
use Rattle.rules.specs.Lines.{one_sigma, two_sigma, lines_of}
use Rattle.rules.specs.Tests.{steps, alternating, window, shows}
use Rattle.rules.specs.Finite.{finite_limits}
use Rattle.rules.specs.Terms.{unstopped}
use Rattle.rules.specs.Marking.{newest_first, stands, marks_at, marks_of, ahead, answer_of, marks_after}
use Rattle.arith.specs.Arith.{mean_of, sign_cleared, moving_of}
use Rattle.charts.specs.declared.Chart.{Chart}
use Rattle.charts.specs.Records.{by_kind, size_wrong, own_wrong, record_wrong, new_of}
use Rattle.evaluating.specs.Asked.{asked}
use Rattle.evaluating.specs.Factors.{factor_of}
use Rattle.evaluating.specs.Series.{by_series, point_at, points_in, series_of}
use Rattle.evaluating.specs.Limits.{factor_for, main_limits, lower_limit, dispersion_limits, centre_of, limits_of}
use Rattle.evaluating.specs.Evaluating.{positions_wrong, too_few, no_room, sound, answer_for, evaluate_of}
use Rattle.sheets.specs.Sheet.{marked, entries_of, sheet_of}
use Rattle.sheets.specs.Said.{entries, said_from}
use Rattle.sheets.specs.Answers.{first_wrong, check_of, series_sheet, write_of, room_after}

-- ---- what a row claims

data Claim : Type 0 where
  -- under these limits, with all nine tests, the bit is set at these positions and no others
  marks : Limits → List ℕ → ℕ → List ℕ → Claim
  -- under these limits, with all nine tests, there is no mark at all
  silent : Limits → List ℕ → Claim
  -- a new chart of this kind and size is answered so
  chart : ℕ → ℕ → ℕ × Chart → Claim
  -- the sheet of these values under the usual limits and this set
  sheet : List ℕ → ℕ → List ℕ → Claim
  -- a number is this string
  string : ℕ → List ℕ → Claim
  -- these bytes are refused
  refused : List ℕ → Claim
  -- the root of one f64 is another
  root : ℕ → ℕ → Claim
  -- the moving range of two f64
  moving : ℕ → ℕ → ℕ → Claim

-- ---- the table

-- so many halves
half : ℕ → Float
unfolding of_int div
half n = div binary64 (of_int binary64 (pos n)) (of_int binary64 (pos 2))

-- 28, 25, 22
usual : Limits
unfolding half
usual = record { ucl = half 56; cl = half 50; lcl = half 44 }

-- 25, 25, 25
flat : Limits
unfolding half
flat = record { ucl = half 50; cl = half 50; lcl = half 50 }

-- a new chart of this kind and size, with the set nelson and no stops
taken : ℕ → ℕ → ℕ × Chart
taken kind size = (0, record { kind = kind; size = size; count = 0; set = record { mask = 255 }; stops = 0 })

-- a size that is not allowed, with a record that is all zero
bad_size : ℕ × Chart
bad_size = (1, record { kind = 0; size = 0; count = 0; set = record { mask = 0 }; stops = 0 })

-- 24, 26 so many times
up_down : ℕ → List ℕ
up_down zero = []
up_down (suc n) = 48 ∷ 52 ∷ up_down n

table : List Claim
unfolding usual flat taken bad_size up_down
table =
    -- 1
    marks usual (replicate 9 52) 1 (8 ∷ [])
    ∷ marks usual (replicate 8 52) 1 []
    -- 2
    ∷ marks usual (replicate 4 52 ++ 50 ∷ replicate 4 52) 1 []
    -- 3
    ∷ marks flat (replicate 15 50) 6 (14 ∷ [])
    ∷ silent flat (replicate 14 50)
    -- 4
    ∷ marks usual (2 ∷ 4 ∷ 6 ∷ 8 ∷ 10 ∷ 12 ∷ []) 2 (5 ∷ [])
    ∷ marks usual (2 ∷ 4 ∷ 6 ∷ 6 ∷ 8 ∷ 10 ∷ []) 2 []
    -- 5
    ∷ marks usual (up_down 7) 3 (13 ∷ [])
    ∷ silent usual (up_down 6 ++ 48 ∷ [])
    -- 6
    ∷ marks usual (56 ∷ []) 0 []
    ∷ marks usual (57 ∷ []) 0 (0 ∷ [])
    -- 7
    ∷ marks usual (55 ∷ 50 ∷ 55 ∷ []) 4 (2 ∷ [])
    ∷ silent usual (54 ∷ 50 ∷ 54 ∷ [])
    -- 8
    ∷ marks usual (55 ∷ 50 ∷ 45 ∷ []) 4 []
    -- 9
    ∷ chart 2 1 bad_size
    ∷ chart 2 26 bad_size
    ∷ chart 2 2 (taken 2 2)
    ∷ chart 2 25 (taken 2 25)
    ∷ chart 3 1 bad_size
    ∷ chart 3 26 bad_size
    ∷ chart 3 2 (taken 3 2)
    ∷ chart 3 25 (taken 3 25)
    -- 10
    ∷ sheet (replicate 10 53) 255
    (0x0a ∷ 0xff ∷ 0x01 ∷ 0x06 ∷ 0x04 ∷ 0x20 ∷ 0x00 ∷ 0x20 ∷ 0x00 ∷ 0x20
    ∷ 0x00 ∷ 0xa0 ∷ 0x01 ∷ 0x00 ∷ 0xa2 ∷ 0x01 ∷ 0x00 ∷ 0xa2 ∷ 0x01 ∷ [])
    -- 11
    ∷ sheet [] 1 (0x00 ∷ 0x01 ∷ 0x00 ∷ [])
    -- 12
    ∷ string 127 (0x7f ∷ [])
    ∷ string 128 (0x80 ∷ 0x01 ∷ [])
    ∷ refused (0x80 ∷ 0x00 ∷ [])
    -- 13: 4.0 and 2.0; the smallest subnormal and 2^-537
    ∷ root 0x4010000000000000 0x4000000000000000
    ∷ root 0x0000000000000001 0x1e60000000000000
    -- 14
    ∷ moving 0x0000000000000000 0x8000000000000000 0x0000000000000000
    ∷ []

-- ---- whether a row holds, by what the promises cite: answers, and what lent slices then hold

same : List ℕ → List ℕ → Bool
same [] [] = true
same [] (y ∷ ys) = false
same (x ∷ xs) [] = false
same (x ∷ xs) (y ∷ ys) = eqb x y && same xs ys

-- the positions, counted from i, at which a bit is set
positions : ℕ → ℕ → List ℕ → List ℕ
unfolding has_bit
positions b i [] = []
positions b i (m ∷ ms) = cond (has_bit m b) (i ∷ positions b (suc i) ms) (positions b (suc i) ms)

-- `mark` takes the values, and a slice of just their length, with every mark in it before, then passes the test
marking : Limits → List Float → (List ℕ → Bool) → Bool
unfolding marks_after answer_of ahead stops_wrong rising cut_at stop_at first_of finite_limits all_finite finite every
    marks_of marks_at tabulate_from newest_first stands window shows tests bit_of has set_of has_bit from_bits count steps alternating
    lines_of one_sigma two_sigma add sub mul div lt le
marking l values test =
    eqb (answer_of (unstopped l) 511 values (length values)) 0 && test (marks_after (unstopped l) 511 values (replicate (length values) 511))

same_chart : ℕ × Chart → ℕ × Chart → Bool
same_chart a b =
    eqb a.0 b.0 && eqb a.1.kind b.1.kind && eqb a.1.size b.1.size && eqb a.1.count b.1.count
    && eqb a.1.set.mask b.1.set.mask && eqb a.1.stops b.1.stops

-- a room of one byte more than these, and what it holds once they are written
room : List ℕ → List ℕ
room bytes = replicate (suc (length bytes)) 7

filled : List ℕ → List ℕ
filled bytes = bytes ++ 7 ∷ []

-- `write` gives the bytes, and `check` accepts them
sheeting : List Float → ℕ → List ℕ → Bool
unfolding usual room filled same write_of room_after check_of first_wrong said_from entries ahead stops_wrong rising cut_at stop_at each first_of finite_limits all_finite finite every
    marks_of marks_at tabulate_from newest_first stands window shows tests bit_of has set_of has_bit from_bits count steps alternating
    lines_of one_sigma two_sigma series_sheet sheet_of marked entries_of groups number_at add sub mul div lt le
sheeting values set bytes =
    eqb (write_of (unstopped usual) set values (length (room bytes))).0 0
    && eqb (write_of (unstopped usual) set values (length (room bytes))).1 (length bytes)
    && same (room_after (unstopped usual) set values (room bytes)) (filled bytes)
    && eqb (check_of (unstopped usual) set values bytes).0 0

is_number : ℕ → ℕ → Result (Read ℕ) Fault → Bool
is_number n end (Ok number) = eqb number.value n && eqb number.next end
is_number n end (Err fault) = false

is_fault : Result (Read ℕ) Fault → Bool
is_fault (Ok number) = false
is_fault (Err fault) = eqb fault.at 0

-- `write_number` gives the bytes, and `read_number` the number
numbering : ℕ → List ℕ → Bool
unfolding room filled same is_number groups number_at
numbering n bytes =
    eqb (room_for (groups n) (length (room bytes))).0 0
    && eqb (room_for (groups n) (length (room bytes))).1 (length bytes)
    && same (at_front_if_room (groups n) (room bytes)) (filled bytes)
    && is_number n (length bytes) (number_at bytes 0)

is_root : ℕ → Result Float NoRoot → Bool
unfolding to_bits
is_root y (Ok r) = eqb (to_bits binary64 r) y
is_root y (Err why) = false

-- individuals, two observations
two : Chart
two = record { kind = 1; size = 1; count = 2; set = record { mask = 1 }; stops = 0 }

-- `evaluate` takes the two observations, and the slice for their moving range, with a NaN in it before, then holds it
ranging : List Float → ℕ → Bool
unfolding two same evaluate_of answer_for first_of record_wrong own_wrong size_wrong positions_wrong stops_wrong rising too_few no_room sound all_finite finite finite_limits every lent_after
    limits_of centre_of main_limits dispersion_limits lower_limit factor_for factor_of
    series_of tabulate_from point_at points_in by_kind by_series moving_of sign_cleared mean_of
    of_bits to_bits of_int round add sub mul div
ranging values r =
    let question = asked two values in
    let number = (evaluate_of question (no_room two 2 1 2 1)).number in
    eqb number 0 && same (map (to_bits binary64) (lent_after number plus_zero (series_of question 1) (nan ∷ []))) (r ∷ [])

holds : Claim → Bool
unfolding half same positions marking same_chart new_of first_of size_wrong by_kind sheeting numbering is_fault number_at is_root root_of ranging
    of_bits to_bits of_int round div
holds (marks l values b at) = marking l (map half values) (λ ms. same (positions b 0 ms) at)
holds (silent l values) = marking l (map half values) (λ ms. same ms (replicate (length values) 0))
holds (chart kind size answer) = same_chart (new_of kind size) answer
holds (sheet values set bytes) = sheeting (map half values) set bytes
holds (string n bytes) = numbering n bytes
holds (refused bytes) = is_fault (number_at bytes 0)
holds (root x y) = is_root y (root_of (of_bits binary64 x))
holds (moving x y r) = ranging (of_bits binary64 x ∷ of_bits binary64 y ∷ []) r

-- ---- the proof

table-holds : every (map holds table) ≡ true
unfolding every table holds
table-holds = refl
