-- Demand 3, for each width mode. For finite limits, at most 4,096 finite values, stops that 15 does not refuse and a valid set:
-- (a) a sheet is accepted exactly if it is well formed, names that count and set, and marks a test at a point exactly when the set has
--     the test and the window of its length that ends at the point fits, with no stop in it, and shows its pattern: `accepted-exactly`;
-- (b) exactly one sheet is accepted: `one-accepted`;
-- (c) it is the one that the writer gives whenever the room holds it: `writer-gives-it`.
-- The last part says the same of whatever the promises of `check` and `write` allow. Assumes nothing.
use Prim.Native.Nat.{ℕ, suc, ◌≤◌, ◌<◌}
use native.Mathlib.Omega.{arith}
use mathlib.Core.Path.{◌≡◌, refl, sym, ap, ◌∙◌}
use mathlib.Core.Bool.{true, false, ◌&&◌}
use mathlib.Core.Logic.{◌↔◌}
use mathlib.Core.List.{List}
use lib.Ieee.{Float}
use lib.ListN.{length, get_or}
use contract.Lifetimes.{Lfts}
use denote.Triple.Clauses.{AtExit}
use borrow.Fn.Kinds.{Dens, res_t, ended_of}
use borrow.Author.Tests.{le-leb, lt-leb}
use Rattle.laws.specs.Front.{at_front}
use Rattle.groups.proofs.Numbers.{Bytes}
use Rattle.stops.specs.Stops.{stops_wrong, main_points}
use Rattle.sets.specs.declared.Test.{Test}
use Rattle.sets.specs.Sets.{has, largest}
use Rattle.std.specs.Prelude.{Ok}
use Rattle.rules.specs.Terms.{Terms, told}
use Rattle.floats.specs.Finite.{all_finite}
use Rattle.rules.specs.Finite.{finite_limits}
use Rattle.rules.specs.Marking.{newest_first, stands, cuts_of, lines_for, marks_of, most, refusal}
use Rattle.rules.proofs.Accepted.{accepts}
use Rattle.rules.proofs.Meaning.{marked, length-marks, marks-at}
use Rattle.sheets.specs.Said.{sheet, said}
use Rattle.sheets.specs.Answers.{Verdict, checked, check_of, series_sheet, write_of, room_after}
use Rattle.sheets.proofs.Sheets.{IsSheet, said-written, said-sound, well-formed}
use Rattle.sheets.proofs.Judging.{check_done, write_done, room-done}
use Rattle.sheets.proofs.Answers.{checked-one, written_one}
use Rattle.sheets.proofs.check.Reads as check
use Rattle.sheets.proofs.check.Kinds as check-kinds
use Rattle.sheets.proofs.write.Reads as write
use Rattle.sheets.proofs.write.Kinds as write-kinds
use Rattle.sheets.proofs.Accepting.{accepted-said, right-inside, right-by-tests, sheet-bytes}

-- 01's number 0, and no values
abbrev pub accepted : Verdict
accepted = (0, 0, 0, 0)

-- What (a) asks of a sheet. It is well formed where it is the sheet of a set and of marks inside it, both within 01's bounds: no reader is
-- needed to say so.
pub record Right (terms : Terms) (set : ℕ) (values : List Float) (bytes : List ℕ) : Type 0 where
  pub named : ℕ
  pub marks : List ℕ
  pub well-formed : IsSheet most largest bytes 0 named marks
  pub that-count : length marks ≡ length values
  pub that-set : named ≡ set
  pub each-mark : (i : ℕ) (t : Test) → i < length values
      → has (get_or marks i 0) t ≡ (has set t && stands (lines_for terms) (newest_first (cuts_of terms) values (suc i)) t)

module _ (terms : Terms) (set : ℕ) (values : List Float)
    (few : length values ≤ most) (stopped : stops_wrong (main_points terms.moving (length values)) terms.stops ≡ false)
    (valid : set ≤ largest) (mode : terms.width ≤ 1) (sound : finite_limits terms.limits ≡ true) (finite : all_finite values ≡ true) where
  right : List ℕ
  right = marks_of terms set values

  none-refused : refusal terms set values ≡ 0
  none-refused =
      accepts terms set values (record { few = few; stopped = stopped; small = valid; mode = mode; sound = sound; finite = finite })

  accepted-is : (bytes : List ℕ) → (check_of terms set values bytes ≡ accepted) ↔ (said bytes ≡ sheet set right)
  unfolding right
  accepted-is bytes =
      let judged-is = check_done terms set values none-refused bytes in
      let both = accepted-said set (marks_of terms set values) (said bytes) in
      ((λ e. both.0 (judged-is ∙ e)), (λ e. sym judged-is ∙ both.1 e))

  -- (a)
  pub accepted-exactly : (bytes : List ℕ) → Bytes bytes → (check_of terms set values bytes ≡ accepted) ↔ Right terms set values bytes
  unfolding right
  accepted-exactly bytes is-bytes = (
    (λ e. record {
      named = set;
      marks = marks_of terms set values;
      well-formed = said-sound most largest bytes 0 set (marks_of terms set values) is-bytes ((accepted-is bytes).0 e);
      that-count = length-marks terms set values;
      that-set = refl;
      each-mark = λ i t h. ap (λ (m : ℕ). has m t) (marks-at terms set values i h) ∙ marked (cuts_of terms) (lines_for terms) set values i t;
    }),
    (λ r.
        let says = (well-formed most largest (omega arith) (omega arith) bytes is-bytes r.named r.marks).1 r.well-formed in
        let its : said bytes ≡ sheet set r.marks = says ∙ ap (λ (t : ℕ). sheet t r.marks) r.that-set in
        let inside = (said-sound most largest bytes 0 set r.marks is-bytes its).inside in
        (accepted-is bytes).1 (its ∙ ap (sheet set) (right-by-tests terms set values valid r.marks r.that-count inside r.each-mark))),
  )

  -- (b)
  pub one-accepted : Bytes (series_sheet terms set values) × (check_of terms set values (series_sheet terms set values) ≡ accepted)
      × ((bytes : List ℕ) → Bytes bytes → check_of terms set values bytes ≡ accepted → bytes ≡ series_sheet terms set values)
  unfolding right series_sheet
  one-accepted = (
    sheet-bytes set (marks_of terms set values),
    (accepted-is (series_sheet terms set values)).1
        (said-written most largest set (marks_of terms set values) (series_sheet terms set values) 0 valid (omega arith)
        (omega (arith, length-marks terms set values)) (omega arith) (right-inside terms set values valid) refl),
    (λ bytes is-bytes e. (said-sound most largest bytes 0 set (marks_of terms set values) is-bytes ((accepted-is bytes).0 e)).string),
  )

  -- (c)
  pub writer-gives-it : (room : List ℕ) → length (series_sheet terms set values) ≤ length room
      → (write_of terms set values (length room) ≡ (0, length (series_sheet terms set values)))
      × (room_after terms set values room ≡ at_front (series_sheet terms set values) room)
  writer-gives-it room h =
      let holds = le-leb (length (series_sheet terms set values)) (length room) h in (
        sym (write_done terms set values none-refused (length room)) ∙ simp holds,
        sym (room-done terms set values none-refused room) ∙ simp holds,
      )

  -- and in a shorter room it writes nothing, and answers 6
  pub writer-refuses : (room : List ℕ) → length room < length (series_sheet terms set values)
      → (write_of terms set values (length room) ≡ (6, 0)) × (room_after terms set values room ≡ room)
  writer-refuses room h =
      let short = lt-leb (length (series_sheet terms set values)) (length room) h in (
        sym (write_done terms set values none-refused (length room)) ∙ simp short,
        sym (room-done terms set values none-refused room) ∙ simp short,
      )

-- ---- the same of the two functions: `Post` is what each promises of its result and of the lent room, told its arguments

-- (a), and with it (b): `check` answers `Ok` exactly for the right sheet
module _ (κs : Lfts 3) (a : Dens κs check-kinds.ps) (x : (res_t check-kinds.r κs).Denot)
    (s : AtExit (ended_of 3 check-kinds.ps check-kinds.r) κs)
    (promised : check.Post κs a x s) where
  abbrev values : List Float
  values = a.0.now

  abbrev terms : Terms
  terms = told a.1.0

  abbrev set : ℕ
  set = a.1.1.0.mask

  abbrev bytes : List ℕ
  bytes = a.1.1.1.0.now

  pub check-accepts : (x ≡ Ok tt) ↔ (check_of terms set values bytes ≡ accepted)
  check-accepts = ((λ e. sym promised ∙ ap checked e), (λ e. checked-one x (Ok tt) (promised ∙ e)))

  module _ (few : length values ≤ most) (stopped : stops_wrong (main_points terms.moving (length values)) terms.stops ≡ false)
      (valid : set ≤ largest) (mode : terms.width ≤ 1) (sound : finite_limits terms.limits ≡ true) (finite : all_finite values ≡ true)
      (is-bytes : Bytes bytes) where
    pub check-accepts-exactly : (x ≡ Ok tt) ↔ Right terms set values bytes
    check-accepts-exactly =
        let both = accepted-exactly terms set values few stopped valid mode sound finite bytes is-bytes in
        ((λ e. both.0 (check-accepts.0 e)), (λ r. check-accepts.1 (both.1 r)))

    -- (b): of all bytes `check` accepts the one sheet, and no others
    pub check-accepts-one : (x ≡ Ok tt) ↔ (bytes ≡ series_sheet terms set values)
    check-accepts-one =
        let one = one-accepted terms set values few stopped valid mode sound finite in (
          (λ e. one.2 bytes is-bytes (check-accepts.0 e)),
          (λ e. check-accepts.1 (ap (check_of terms set values) e ∙ one.1)),
        )

-- (c): `write` leaves that sheet in every room that holds it
module _ (κs : Lfts 3) (a : Dens κs write-kinds.ps) (x : (res_t write-kinds.r κs).Denot)
    (s : AtExit (ended_of 3 write-kinds.ps write-kinds.r) κs)
    (promised : write.Post κs a x s) where
  abbrev its : List ℕ
  its = series_sheet (told a.1.0) a.1.1.0.mask a.0.now

  abbrev room : List ℕ
  room = a.1.1.1.0.now

  pub write-gives-it : length a.0.now ≤ most → stops_wrong (main_points (told a.1.0).moving (length a.0.now)) (told a.1.0).stops ≡ false
      → a.1.1.0.mask ≤ largest → (told a.1.0).width ≤ 1 → finite_limits (told a.1.0).limits ≡ true → all_finite a.0.now ≡ true
      → length its ≤ length room → (x ≡ Ok (length its)) × (s.1.1.1.0.now ≡ at_front its room)
  write-gives-it few stopped valid mode sound finite holds =
      let gives = writer-gives-it _ _ a.0.now few stopped valid mode sound finite room holds in
      (written_one x (Ok _) (promised.0 ∙ gives.0), promised.1 ∙ gives.1)
