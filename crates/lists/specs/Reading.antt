-- What stands at a place of a list (oracle/FORMAT.md). Definitions only.
use Rattle.std.specs.Prelude.{Bool, cond, ◌&&◌, ◌||◌, List, [], ◌∷◌, ℕ, zero, suc, ◌+◌, leb, ltb, eqb, Float, length, drop}
use Rattle.std.specs.Prelude.{Result, Ok, Err}
use Rattle.std.specs.Float.{binary64}
use Rattle.std.specs.Float.Ieee.{of_bits}
use Rattle.std.specs.List.{list_all}
use Rattle.floats.specs.Finite.{finite}
use Rattle.groups.specs.declared.Read.{Read}
use Rattle.groups.specs.declared.Fault as groups
use Rattle.groups.specs.Groups.{number_at}
use Rattle.lists.specs.declared.Item.{Item}
use Rattle.lists.specs.declared.Form.{Form}
use Rattle.lists.specs.declared.Form.TheVariants.{Plain, Stopped, Moded}
use Rattle.lists.specs.declared.Item.TheVariants.{Format, Cases, Tag, Answer, End}
use Rattle.lists.specs.declared.Why.TheVariants.{Cut, Form as Formed, Range, Unlisted, NotFinite, LeftOver, TooLong}
use Rattle.lists.specs.declared.Fault.{Fault}
use Rattle.lists.specs.declared.Stretch.{Stretch}
use Rattle.lists.specs.Found.{read, wrong, onward}

-- ---- a number, "in groups of seven bits"

-- the bytes end before a number at the place does: each has "the top bit set", as have "all but the last group"
unfoldable pub cut : List ℕ → ℕ → Bool
cut list at = list_all (leb 128) (drop at list)

-- why none stands there
abbrev pub no_number : List ℕ → ℕ → Item → Fault
no_number list at item = record { at = at; item = item; why = cond (cut list at) Cut Formed }

abbrev pub found_in : List ℕ → Item → Result (Read ℕ) groups.Fault → Result (Read ℕ) Fault
found_in list item (Ok number) = Ok number
found_in list item (Err fault) = Err (no_number list fault.at item)

unfoldable pub number_from : List ℕ → Item → ℕ → Result (Read ℕ) Fault
number_from list item at = found_in list item (number_at list at)

-- a number that is low to high
unfoldable pub small_from : List ℕ → Item → ℕ → ℕ → ℕ → Result (Read ℕ) Fault
small_from list item low high at =
    onward (number_from list item at) (λ v next. cond (leb low v && leb v high) (read v next) (wrong at item (Range v low high)))

-- no list has the number there
abbrev pub not_listed : ℕ → Item → ℕ → Fault
not_listed at item v = record { at = at; item = item; why = Unlisted v }

-- "its tag": that of a case, of such a case "with stops", or of one "in a width mode"
unfoldable pub tag_from : List ℕ → ℕ → ℕ → ℕ → ℕ → Result (Read Form) Fault
tag_from list plain stopped moded at =
    onward (small_from list Tag plain moded at) (λ v next.
    cond (eqb v plain) (read Plain next)
    (cond (eqb v stopped) (read Stopped next) (cond (eqb v moded) (read Moded next) (Err (not_listed at Tag v)))))

-- "01's number": 0, or 7 to high
unfoldable pub answer_from : List ℕ → ℕ → ℕ → Result (Read ℕ) Fault
answer_from list high at = onward (small_from list Answer 0 high at) (λ v next.
    cond (eqb v 0 || leb 7 v) (read v next) (Err (not_listed at Answer v)))

-- ---- an f64, which "stands as its bits, read as one number"; "No NaN and no infinity stands in a list"

unfoldable pub float_from : List ℕ → Item → ℕ → Result (Read Float) Fault
float_from list item at =
    onward (number_from list item at) (λ bits next.
    cond (finite (of_bits binary64 bits)) (read (of_bits binary64 bits) next) (wrong at item NotFinite))

-- ---- the number of bytes and then "the bytes, each as it is and not as a number": where these begin and end

unfoldable pub bytes_from : List ℕ → Item → ℕ → Result Stretch Fault
bytes_from list item at =
    onward (number_from list item at) (λ n from. cond (leb (from + n) (length list)) (Ok (record { from = from; to = from + n })) (wrong at item Cut))

-- ---- so many, "one after another": those before the first that has a fault, and that fault or the place past the last

abbrev pub following : {A : Type 0} → Result (Read A) Fault → (ℕ → List A × Result ℕ Fault) → List A × Result ℕ Fault
following (Ok found) rest = (found.value ∷ (rest found.next).0, (rest found.next).1)
following (Err fault) rest = ([], Err fault)

unfoldable pub row_from : {A : Type 0} → (ℕ → Result (Read A) Fault) → ℕ → ℕ → List A × Result ℕ Fault
row_from one zero at = ([], Ok at)
row_from one (suc n) at = following (one at) (row_from one n)

abbrev pub numbers_from : List ℕ → Item → ℕ → ℕ → List ℕ × Result ℕ Fault
numbers_from list item n at = row_from (number_from list item) n at

abbrev pub floats_from : List ℕ → Item → ℕ → ℕ → List Float × Result ℕ Fault
floats_from list item n at = row_from (float_from list item) n at

-- ---- the whole

-- "at most 400,000 bytes long"; format 1, and the number of cases
unfoldable pub opening_of : List ℕ → Result (Read ℕ) Fault
opening_of list =
    cond (ltb 400000 (length list)) (wrong 400000 End TooLong)
    (onward (small_from list Format 1 1 0) (λ format next. number_from list Cases next))

-- "end: 0, where the next tag would stand"; "Nothing follows the end"
unfoldable pub closing_from : List ℕ → ℕ → Result ℕ Fault
closing_from list at =
    onward (small_from list End 0 0 at) (λ end next. cond (ltb next (length list)) (wrong next End LeftOver) (Ok next))
