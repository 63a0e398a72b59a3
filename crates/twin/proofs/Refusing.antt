-- The C functions' answers from what is refused before a value is read, and from the library's answers on the values. Assumes nothing.
use mathlib.Core.Path.{◌≡◌, refl, sym, ap, ap₂, ◌∙◌}
use mathlib.Core.Bool.{Bool, true, false}
use mathlib.Core.List.{List, [], ◌∷◌}
use Prim.Native.Nat.{ℕ, suc, ◌/◌, ◌≤◌, ◌<◌}
use Rattle.std.specs.Prelude.{Result, Ok, Err, ⊤}
use native.Mathlib.Omega.{arith}
use lib.Dec.{ltb}
use lib.Ieee.{Float}
use lib.ListN.{length, take, drop}
use lib.Seq.{take_at}
use borrow.Author.Tests.{lt-ltb, le-ltb, ltb-true, ltb-false, eq-eqb, ne_eqb}
use Rattle.laws.specs.Refusals.{first_of}
use Rattle.laws.specs.Front.{at_front}
use Rattle.laws.proofs.Refusals.{passed, none-applies, accepted}
use Rattle.stops.proofs.Rising.{none-wrong}
use Rattle.rules.specs.declared.Limits.{Limits}
use Rattle.rules.specs.Terms.{Terms, unstopped}
use Rattle.rules.specs.Marking.{most, ahead, refusal, answer_of, marks_of}
use Rattle.rules.proofs.Accepted.{answer-refused, answer-short, answer-done}
use Rattle.rules.proofs.Answers.{number-above as series-above}
use Rattle.sheets.specs.Answers.{Verdict, plain, check_of, write_of, room_after}
use Rattle.sheets.proofs.Judging.{check-refused, write-refused, room-refused}
use Rattle.twin.specs.Bytes.{floats_of, not_eights, bytes_of}
use Rattle.twin.specs.Answers.{mark_number, bytes_after, mark_room, packed, check_number, packed_length, write_number, write_room}
use Rattle.twin.specs.declared.Refusal.{Refusal}
use Rattle.twin.specs.declared.Refusal.TheVariants.{Ragged, Series}
use Rattle.twin.specs.Steps.{number, numbered, as_fault, told_by, early, values_after}
use Rattle.twin.proofs.FromBytes.{length-floats}

-- a refusal's number is not 0
number-above : (why : Refusal) → 0 < number why
number-above Ragged = omega arith
number-above (Series why) = series-above why

not_done : (why : Refusal) → number why ≡ 0 → ⊥
not_done why e = omega (arith, number-above why, e)

-- its word, as a fault: the number alone
fault-number : (why : Refusal) → packed (told_by (as_fault why)) ≡ number why
fault-number Ragged = refl
fault-number (Series why) = omega arith

-- what is not refused before a value is read
pub record Begun (bs : List ℕ) (set : ℕ) : Type 0 where
  pub eights : not_eights bs ≡ false
  pub few : length bs / 8 ≤ most
  pub small : set ≤ 511

pub begun : (bs : List ℕ) (set : ℕ) → early bs set ≡ 0 → Begun bs set
unfolding early
begun bs set e =
    let a = accepted (not_eights bs) 2 _ (omega arith) e in
    let b = accepted (ltb most (length bs / 8)) 5 _ (omega arith) a.1 in
    let d = accepted (ltb 511 set) 4 _ (omega arith) b.1 in
    record { eights = a.0; few = ltb-false most (length bs / 8) b.0; small = ltb-false 511 set d.0 }

-- ---- what reading answered

module _ (bs : List ℕ) (set : ℕ) (r : Result ⊤ Refusal) (told : numbered r ≡ early bs set) where
  pub starts : r ≡ Ok tt → early bs set ≡ 0
  starts is = sym told ∙ ap numbered is

  pub begins : r ≡ Ok tt → Begun bs set
  begins is = begun bs set (starts is)

  pub stopped : (why : Refusal) → r ≡ Err why → number why ≡ early bs set
  stopped why is = sym (ap numbered is) ∙ told

-- the values stand at the front
pub values-front : (bs : List ℕ) (set : ℕ) → early bs set ≡ 0 → (old vs : List Float)
    → vs ≡ values_after bs set old → take (length bs / 8) vs ≡ floats_of bs
unfolding values_after
values-front bs set e old vs is =
    ap (take (length bs / 8)) (is ∙ simp (eq-eqb (early bs set) 0 e))
    ∙ take_at (floats_of bs) (drop (length (floats_of bs)) old) (length bs / 8) (length-floats bs)

-- ---- marking a series into bytes

module _ (terms : Terms) (set : ℕ) (values : List Float) where
  bytes-kept : (room : List ℕ) → (answer_of terms set values (length room / 2) ≡ 0 → ⊥) → room ≡ bytes_after terms set values room
  unfolding bytes_after
  bytes-kept room nz = sym (simp (ne_eqb (answer_of terms set values (length room / 2)) 0 nz))

  pub bytes-refused : (r : ℕ) (room : List ℕ) → r ≡ refusal terms set values → (r ≡ 0 → ⊥)
      → (r ≡ answer_of terms set values (length room / 2)) × (room ≡ bytes_after terms set values room)
  bytes-refused r room is nz =
      let answer = is ∙ sym (answer-refused terms set values (length room / 2) (λ e. nz (is ∙ e))) in
      (answer, bytes-kept room (λ e. nz (answer ∙ e)))

  module _ (none : refusal terms set values ≡ 0) where
    pub bytes-short : (room : List ℕ) → length room / 2 < length values
        → (6 ≡ answer_of terms set values (length room / 2)) × (room ≡ bytes_after terms set values room)
    bytes-short room h =
        let answer = answer-short terms set values (length room / 2) none h in
        (sym answer, bytes-kept room (λ e. omega (arith, answer, e)))

    pub bytes-done : (room : List ℕ) → length values ≤ length room / 2
        → (0 ≡ answer_of terms set values (length room / 2))
        × (at_front (bytes_of (marks_of terms set values)) room ≡ bytes_after terms set values room)
    unfolding bytes_after
    bytes-done room h =
        let answer = answer-done terms set values (length room / 2) none h in
        (sym answer, sym (simp (eq-eqb _ 0 answer)))

-- ---- behind what is refused before a value is read

module _ (limits : Limits) (set : ℕ) (bs : List ℕ) where
  abbrev terms : Terms
  terms = unstopped limits

  abbrev values : List Float
  values = floats_of bs

  -- ---- 5 and 4 are marking's too

  many : most < length bs / 8 → refusal terms set values ≡ 5
  unfolding ahead first_of
  many h = simp (lt-ltb most (length values) (omega (arith, length-floats bs)))

  over : length bs / 8 ≤ most → 511 < set → refusal terms set values ≡ 4
  unfolding ahead first_of
  over h o =
      simp (le-ltb most (length values) (omega (arith, length-floats bs)), none-wrong (length values), lt-ltb 511 set o)

  -- So where something is refused ahead, it is what is refused. `f` makes an answer of a number, `whole` is the library's.
  module _ {A : Type 0} (f : ℕ → A) (whole : A) (r : ℕ) (nz : r ≡ 0 → ⊥)
      (h : (k : ℕ) → refusal terms set values ≡ suc k → f (suc k) ≡ whole) where
    stops-by : (a b d : Bool) → not_eights bs ≡ a → ltb most (length bs / 8) ≡ b → ltb 511 set ≡ d
        → r ≡ first_of ((a, 2) ∷ (b, 5) ∷ (d, 4) ∷ []) 0 → f r ≡ first_of ((a, f 2) ∷ []) whole
    unfolding first_of
    stops-by true b d x y z e = ap f e
    stops-by false true d x y z e = ap f e ∙ h 4 (many (ltb-true most (length bs / 8) y))
    stops-by false false true x y z e = ap f e ∙ h 3 (over (ltb-false most (length bs / 8) y) (ltb-true 511 set z))
    stops-by false false false x y z e = absurd (nz e)

    stops : r ≡ early bs set → f r ≡ first_of ((not_eights bs, f 2) ∷ []) whole
    unfolding early
    stops e = stops-by (not_eights bs) (ltb most (length bs / 8)) (ltb 511 set) refl refl refl e

  goes_on : {A : Type 0} (x whole : A) → early bs set ≡ 0 → whole ≡ first_of ((not_eights bs, x) ∷ []) whole
  goes_on x whole e = sym (passed (not_eights bs) x [] whole (begun bs set e).eights ∙ none-applies whole)

  some : (k : ℕ) → refusal terms set values ≡ suc k → refusal terms set values ≡ 0 → ⊥
  some k h e = omega (arith, h, e)

  module _ (why : Refusal) (is : number why ≡ early bs set) where
    abbrev r : ℕ
    r = number why

    nz : r ≡ 0 → ⊥
    nz = not_done why

    pub mark-stops : (room : List ℕ) → (r ≡ mark_number terms set bs room) × (room ≡ mark_room terms set bs room)
    unfolding mark_number mark_room
    mark-stops room = (
      stops (λ n. n) (answer_of terms set values (length room / 2)) r nz
          (λ k h. sym h ∙ sym (answer-refused terms set values (length room / 2) (some k h))) is,
      stops (λ n. room) (bytes_after terms set values room) r nz
          (λ k h. (bytes-refused terms set values (refusal terms set values) room refl (some k h)).1) is,
    )

    pub check-stops : (sheet : List ℕ) → packed (told_by (as_fault why)) ≡ check_number terms set bs sheet
    unfolding check_number
    check-stops sheet =
        let word : r ≡ packed (plain r) = omega arith in
        fault-number why
        ∙ word
        ∙ ap packed (stops plain (check_of terms set values sheet) r nz
        (λ k h. ap plain (sym h) ∙ check-refused terms set values (some k h) sheet) is)

    pub write-stops : (room : List ℕ) → (packed_length (r, 0) ≡ write_number terms set bs room) × (room ≡ write_room terms set bs room)
    unfolding write_number write_room
    write-stops room = (
      ap packed_length (stops (λ n. (n, 0)) (write_of terms set values (length room)) r nz
          (λ k h. ap (λ (n : ℕ). (n, 0)) (sym h) ∙ write-refused terms set values (some k h) (length room)) is),
      stops (λ n. room) (room_after terms set values room) r nz (λ k h. room-refused terms set values (some k h) room) is,
    )

  module _ (started : early bs set ≡ 0) where
    pub mark-goes : (room : List ℕ) → (answer_of terms set values (length room / 2) ≡ mark_number terms set bs room)
        × (bytes_after terms set values room ≡ mark_room terms set bs room)
    unfolding mark_number mark_room
    mark-goes room = (
      goes_on 2 (answer_of terms set values (length room / 2)) started,
      goes_on room (bytes_after terms set values room) started,
    )

    pub check-goes : (sheet : List ℕ) → packed (check_of terms set values sheet) ≡ check_number terms set bs sheet
    unfolding check_number
    check-goes sheet = ap packed (goes_on (plain 2) (check_of terms set values sheet) started)

    pub write_goes : (room : List ℕ) → (packed_length (write_of terms set values (length room)) ≡ write_number terms set bs room)
        × (room_after terms set values room ≡ write_room terms set bs room)
    unfolding write_number write_room
    write_goes room = (
      ap packed_length (goes_on (2, 0) (write_of terms set values (length room)) started),
      goes_on room (room_after terms set values room) started,
    )

    -- of the values that were read, under terms that are these
    module _ (old vs : List Float) (read : vs ≡ values_after bs set old) (under : Terms) (are : under ≡ terms) where
      pub check-whole : (sheet : List ℕ) {v : Verdict} → v ≡ check_of under set (take (length bs / 8) vs) sheet → packed v ≡ check_number terms set bs sheet
      check-whole sheet e =
          ap packed (e ∙ ap₂ (λ (t : Terms) (xs : List Float). check_of t set xs sheet) are (values-front bs set started old vs read))
          ∙ check-goes sheet

      pub write-whole : (room : List ℕ) {a : ℕ × ℕ} {now : List ℕ}
          → a ≡ write_of under set (take (length bs / 8) vs) (length room) → now ≡ room_after under set (take (length bs / 8) vs) room
          → (packed_length a ≡ write_number terms set bs room) × (now ≡ write_room terms set bs room)
      write-whole room e left =
          let xs = values-front bs set started old vs read in
          let goes = write_goes room in (
            ap packed_length (e ∙ ap₂ (λ (t : Terms) (xs : List Float). write_of t set xs (length room)) are xs) ∙ goes.0,
            left ∙ ap₂ (λ (t : Terms) (xs : List Float). room_after t set xs room) are xs ∙ goes.1,
          )
