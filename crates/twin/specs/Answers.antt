-- What the C functions answer and what they leave in the lent slices: the library's own answers, with 2 before anything else (01,
-- 'Numbers a call may give back'). `bs` are the bytes of the values. Definitions only.
use Rattle.std.specs.Prelude.{cond, List, [], ◌∷◌, ℕ, ◌+◌, ◌*◌, ◌/◌, eqb, Float, length}
use Rattle.laws.specs.Refusals.{first_of}
use Rattle.laws.specs.Front.{at_front}
use Rattle.rules.specs.Terms.{Terms, unstopped}
use Rattle.rules.specs.Marking.{answer_of, marks_of}
use Rattle.sheets.specs.Answers.{Verdict, plain, check_of, write_of, room_after}
use Rattle.root.specs.Root.{numbered, root_of}
use Rattle.twin.specs.Bytes.{floats_of, not_eights, bytes_of}

-- what a series is asked under, by its three limits: no stops come through the boundary, and no mode (02, R-10: "C calls keep .. no stops,
-- modes 0")
abbrev pub terms_of : Float → Float → Float → Terms
terms_of u c l = unstopped (record { ucl = u; cl = c; lcl = l })

-- ---- marking

-- A room of so many bytes has entries for half as many points, an odd byte counting for nothing.
unfoldable pub mark_number : Terms → ℕ → List ℕ → List ℕ → ℕ
mark_number terms set bs room = first_of ((not_eights bs, 2) ∷ []) (answer_of terms set (floats_of bs) (length room / 2))

-- the bytes of a series' marks, at the front of the room where nothing was refused; else it is as it came
unfoldable pub bytes_after : Terms → ℕ → List Float → List ℕ → List ℕ
bytes_after terms set values room =
    cond (eqb (answer_of terms set values (length room / 2)) 0) (at_front (bytes_of (marks_of terms set values)) room) room

unfoldable pub mark_room : Terms → ℕ → List ℕ → List ℕ → List ℕ
mark_room terms set bs room = first_of ((not_eights bs, room) ∷ []) (bytes_after terms set (floats_of bs) room)

-- ---- checking

-- the number in bits 0 to 7, the place or position from bit 8 on, the right marks from bit 24 on, the stated ones from bit 40 on
abbrev pub packed : Verdict → ℕ
packed v = v.0 + 256 * v.1 + 16777216 * v.2 + 1099511627776 * v.3

unfoldable pub check_number : Terms → ℕ → List ℕ → List ℕ → ℕ
check_number terms set bs sheet = packed (first_of ((not_eights bs, plain 2) ∷ []) (check_of terms set (floats_of bs) sheet))

-- ---- writing

-- the number in bits 0 to 7, the sheet's length from bit 8 on
abbrev pub packed_length : ℕ × ℕ → ℕ
packed_length a = a.0 + 256 * a.1

unfoldable pub write_number : Terms → ℕ → List ℕ → List ℕ → ℕ
write_number terms set bs room = packed_length (first_of ((not_eights bs, (2, 0)) ∷ []) (write_of terms set (floats_of bs) (length room)))

unfoldable pub write_room : Terms → ℕ → List ℕ → List ℕ → List ℕ
write_room terms set bs room = first_of ((not_eights bs, room) ∷ []) (room_after terms set (floats_of bs) room)

-- ---- the root

-- the value that goes with the number: the root, or +0.0 where it is refused
unfoldable pub root_number : Float → Float
root_number x = (numbered (root_of x)).1
