-- Worked at the boundary: row 11 of 01's table, and a length that is not a multiple of eight. Assumes nothing.
use Prim.Native.Nat.{ℕ}
use lib.IntN.{pos}
use mathlib.Core.Path.{◌≡◌, refl}
use mathlib.Core.Bool.{false}
use mathlib.Core.List.{List, [], ◌∷◌}
use lib.Ieee.{fin}
use lib.ListN.{replicate}
use Rattle.laws.specs.Bools.{every, count}
use Rattle.laws.specs.Lists.{tabulate_from}
use Rattle.laws.specs.Refusals.{first_of, each}
use Rattle.groups.specs.Groups.{groups, number_at}
use Rattle.stops.specs.Stops.{rising, stops_wrong}
use Rattle.rules.specs.Terms.{Terms, unstopped}
use Rattle.floats.specs.Finite.{finite, all_finite}
use Rattle.rules.specs.Finite.{finite_limits}
use Rattle.rules.specs.Marking.{ahead, marks_of}
use Rattle.sheets.specs.Sheet.{marked, entries_of, sheet_of}
use Rattle.sheets.specs.Said.{entries, said_from}
use Rattle.sheets.specs.Answers.{first_wrong, check_of, series_sheet, write_of, room_after}
use Rattle.twin.specs.Bytes.{word_of, floats_of, bytes_of}
use Rattle.twin.specs.Answers.{mark_number, mark_room, check_number, write_number, write_room}

-- 28, 25, 22
abbrev terms : Terms
terms = unstopped (record { ucl = fin false 7 (pos 2); cl = fin false 25 (pos 0); lcl = fin false 11 (pos 1) })

-- ---- row 11: no points, shewhart

-- into a room of four bytes: the sheet `00 01 00`, its length in bits 8 and up, and the fourth byte as it came
row-11-written : (write_number terms 1 [] (7 ∷ 7 ∷ 7 ∷ 7 ∷ []) ≡ 0x300) × (write_room terms 1 [] (7 ∷ 7 ∷ 7 ∷ 7 ∷ []) ≡ 0 ∷ 1 ∷ 0 ∷ 7 ∷ [])
unfolding write_number write_room write_of room_after first_of each ahead finite_limits all_finite finite every floats_of tabulate_from
    stops_wrong rising series_sheet marks_of sheet_of marked count entries_of groups
row-11-written = (refl, refl)

-- it is accepted; without its last byte it has a fault at place 2; with the set 0 it is another set's
row-11-checked : (check_number terms 1 [] (0 ∷ 1 ∷ 0 ∷ []) ≡ 0) × (check_number terms 1 [] (0 ∷ 1 ∷ []) ≡ 0x209)
    × (check_number terms 1 [] (0 ∷ 0 ∷ 0 ∷ []) ≡ 10)
unfolding check_number check_of first_of each ahead stops_wrong rising finite_limits all_finite finite every floats_of tabulate_from marks_of first_wrong said_from entries number_at
row-11-checked = (refl, refl, refl)

-- ---- seven bytes: 2, whatever the set and the rooms are, and the rooms as they came

module _ (set : ℕ) (room : List ℕ) where
  abbrev seven : List ℕ
  seven = replicate 7 0

  seven-refused : (mark_number terms set seven room ≡ 2) × (check_number terms set seven room ≡ 2) × (write_number terms set seven room ≡ 2)
  unfolding mark_number check_number write_number first_of
  seven-refused = (refl, refl, refl)

  seven-kept : (mark_room terms set seven room ≡ room) × (write_room terms set seven room ≡ room)
  unfolding mark_room write_room mark_number first_of
  seven-kept = (refl, refl)

-- ---- low byte first: the bits of 1.0 are 3ff0000000000000, the marks 258 are the bytes 2 and 1

low_first : (word_of (0 ∷ 0 ∷ 0 ∷ 0 ∷ 0 ∷ 0 ∷ 0xf0 ∷ 0x3f ∷ []) ≡ 0x3ff0000000000000) × (bytes_of (258 ∷ 3 ∷ []) ≡ 2 ∷ 1 ∷ 3 ∷ 0 ∷ [])
unfolding word_of bytes_of
low_first = (refl, refl)
