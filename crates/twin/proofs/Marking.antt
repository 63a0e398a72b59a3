-- Marking a series in bytes, behind what is refused before a value is read: what marking refuses, then the room. Assumes nothing.
use Prim.Native.Nat.{ℕ, ◌/◌, ◌≤◌, ◌<◌}
use native.Mathlib.Omega.{arith}
use mathlib.Core.Path.{◌≡◌, sym, ap, ap₂, ◌∙◌}
use mathlib.Core.List.{List}
use lib.Ieee.{Float}
use lib.ListN.{length, take, replicate}
use Rattle.std.specs.Prelude.{Result, Ok, Err, ⊤}
use Rattle.laws.specs.Front.{at_front}
use Rattle.rules.specs.declared.Limits.{Limits}
use Rattle.rules.specs.declared.Refusal.{Refusal}
use Rattle.rules.specs.Terms.{Terms, unstopped}
use Rattle.rules.specs.Marking.{most, number, numbered, answer_of, marks_after}
use Rattle.rules.proofs.Accepted.{Made}
use Rattle.sheets.proofs.Marking.{marked-right, refused-as, was-refused}
use Rattle.twin.specs.Bytes.{floats_of, bytes_of}
use Rattle.twin.specs.Answers.{mark_number, mark_room}
use Rattle.twin.specs.Steps.{early, values_after}
use Rattle.twin.proofs.FromBytes.{length-floats}
use Rattle.twin.proofs.Refusing.{values-front, bytes-refused, bytes-short, bytes-done, mark-goes}

-- the values that were read, the terms and the room that marking was told, what it answered
module _ (limits : Limits) (set : ℕ) (bs : List ℕ) (started : early bs set ≡ 0)
    (old vs : List Float) (read : vs ≡ values_after bs set old) (terms : Terms) (under : terms ≡ unstopped limits)
    (room : ℕ) (holds : length bs / 8 ≤ most → length bs / 8 ≤ room)
    (now : List ℕ) (r : Result ⊤ Refusal)
    (told : numbered r ≡ answer_of terms set (take (length bs / 8) vs) (length (replicate {A = ℕ} room 0)))
  where
    abbrev values : List Float
    values = floats_of bs

    are : take (length bs / 8) vs ≡ values
    are = values-front bs set started old vs read

    held : length values ≤ most → length values ≤ room
    held few = omega (arith, length-floats bs, holds (omega (arith, length-floats bs, few)))

    answer : numbered r ≡ answer_of (unstopped limits) set values (length (replicate {A = ℕ} room 0))
    answer = told ∙ ap₂ (λ (t : Terms) (xs : List Float). answer_of t set xs (length (replicate {A = ℕ} room 0))) under are

    pub mark-refused : (why : Refusal) → r ≡ Err why → (out : List ℕ)
        → (number why ≡ mark_number (unstopped limits) set bs out) × (out ≡ mark_room (unstopped limits) set bs out)
    mark-refused why is out =
        let same = refused-as (unstopped limits) set values room held now r answer why is in
        let some = was-refused (unstopped limits) set values room held now r answer why is in
        let all = bytes-refused (unstopped limits) set values (number why) out same (λ e. some (sym same ∙ e)) in
        let goes = mark-goes limits set bs started out in
        (all.0 ∙ goes.0, all.1 ∙ goes.1)

    module _ (left : now ≡ marks_after terms set (take (length bs / 8) vs) (replicate room 0)) (is : r ≡ Ok tt) where
      marked : Made (unstopped limits) set values (replicate room 0) now
      marked =
          let filled = left ∙ ap₂ (λ (t : Terms) (xs : List Float). marks_after t set xs (replicate room 0)) under are in
          marked-right (unstopped limits) set values room held now r answer filled is

      pub mark-short : (out : List ℕ) → length out / 2 < length bs / 8
          → (6 ≡ mark_number (unstopped limits) set bs out) × (out ≡ mark_room (unstopped limits) set bs out)
      mark-short out h =
          let all = bytes-short (unstopped limits) set values marked.none out (omega (arith, length-floats bs, h)) in
          let goes = mark-goes limits set bs started out in
          (all.0 ∙ goes.0, all.1 ∙ goes.1)

      pub mark-done : (out put : List ℕ) → length bs / 8 ≤ length out / 2 → put ≡ at_front (bytes_of (take (length bs / 8) now)) out
          → (0 ≡ mark_number (unstopped limits) set bs out) × (put ≡ mark_room (unstopped limits) set bs out)
      mark-done out put h is_put =
          let all = bytes-done (unstopped limits) set values marked.none out (omega (arith, length-floats bs, h)) in
          let goes = mark-goes limits set bs started out in
          let front = ap (λ (n : ℕ). take n now) (sym (length-floats bs)) ∙ marked.front in
          (all.0 ∙ goes.0, is_put ∙ ap (λ (ms : List ℕ). at_front (bytes_of ms) out) front ∙ all.1 ∙ goes.1)
