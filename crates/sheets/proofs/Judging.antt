-- The checker's answer from the entries and the right marks; and what checking and writing answer and leave behind marking's
-- refusals. Assumes nothing.
use Prim.Native.Nat.{ℕ}
use mathlib.Core.Path.{◌≡◌, refl, sym, ap, ◌∙◌}
use mathlib.Core.Bool.{Bool, true, false, not, ◌&&◌, cond}
use mathlib.Core.List.{List, [], ◌∷◌}
use lib.Dec.{eqb, ltb, leb}
use lib.Ieee.{Float}
use lib.ListN.{length}
use borrow.Author.Tests.{lt-ltb, le-ltb, leb-true, leb-false, eq-eqb, ne_eqb, eqb-true}
use Rattle.laws.specs.Refusals.{first_of, each}
use Rattle.laws.specs.Front.{at_front, at_front_if_room, room_for}
use Rattle.laws.proofs.Refusals.{passed, refused, first-append, each_first}
use Rattle.rules.specs.Terms.{Terms}
use Rattle.rules.specs.Marking.{ahead, refusal, marks_of}
use Rattle.rules.proofs.Accepted.{ahead-numbers}
use Rattle.std.specs.Prelude.{Result, Ok, Err, ⊤}
use Rattle.groups.specs.declared.Fault.{Fault}
use Rattle.sheets.specs.Said.{Said, said}
use Rattle.sheets.specs.Answers.{plain, first_wrong, judged, check_of, series_sheet, write_of, room_after}
use Rattle.sheets.specs.Steps.{tells}

-- ---- 9, then 10, then 11

-- points and set are the caller's, or not
pub named-same : (a b c d : ℕ) → a ≡ b → c ≡ d → not (eqb a b && eqb c d) ≡ false
named-same a b c d x y = simp (eq-eqb a b x, eq-eqb c d y)

named_other : (a b c d : ℕ) → ((a ≡ b) × (c ≡ d) → ⊥) → not (eqb a b && eqb c d) ≡ true
named_other a b c d z = by (eqb a b) (eqb c d) refl refl
  where
    by : (t u : Bool) → eqb a b ≡ t → eqb c d ≡ u → not (t && u) ≡ true
    by true true x y = absurd (z (eqb-true a b x, eqb-true c d y))
    by true false x y = refl
    by false u x y = refl

-- how the entries came out, and the marks of every point where they are whole
module _ (set : ℕ) (right : List ℕ) (r : Said) (t : ℕ) (found : Result ⊤ Fault) (ms : List ℕ) (told : tells t found ms ≡ r) where
  said-by : (e : Result ⊤ Fault) → found ≡ e → tells t e ms ≡ r
  said-by e is = ap (λ (x : Result ⊤ Fault). tells t x ms) (sym is) ∙ told

  pub judged-broken : (p : Fault) → found ≡ Err p → (9, p.at, 0, 0) ≡ judged set right r
  judged-broken p is = ap (judged set right) (said-by (Err p) is)

  module _ (is : found ≡ Ok tt) where
    pub judged-other : ((length ms ≡ length right) × (t ≡ set) → ⊥) → plain 10 ≡ judged set right r
    judged-other z =
        sym (refused (not (eqb (length ms) (length right) && eqb t set)) (plain 10) [] (first_wrong 0 right ms)
        (named_other (length ms) (length right) t set z))
        ∙ ap (judged set right) (said-by (Ok tt) is)

    -- for its points alone
    pub judged-points : (length ms ≡ length right → ⊥) → plain 10 ≡ judged set right r
    judged-points z = judged-other (λ e. z e.0)

    pub judged-same : length ms ≡ length right → t ≡ set → first_wrong 0 right ms ≡ judged set right r
    unfolding first_of
    judged-same x y =
        sym (passed (not (eqb (length ms) (length right) && eqb t set)) (plain 10) [] (first_wrong 0 right ms)
        (named-same (length ms) (length right) t set x y))
        ∙ ap (judged set right) (said-by (Ok tt) is)

-- ---- behind marking's refusals

-- 6 exactly where the room is shorter than the sheet
in-room : (bytes : List ℕ) (room : ℕ)
    → first_of {A = ℕ × ℕ} ((ltb room (length bytes), (6, 0)) ∷ []) (0, length bytes) ≡ room_for bytes room
unfolding first_of
in-room bytes room = by (leb (length bytes) room) refl
  where
    by : (b : Bool) → leb (length bytes) room ≡ b
        → ◌≡◌ {A = ℕ × ℕ} (cond (ltb room (length bytes)) (6, 0) (0, length bytes)) (cond b (0, length bytes) (6, 0))
    by true e = simp (le-ltb room (length bytes) (leb-true (length bytes) room e))
    by false e = simp (lt-ltb room (length bytes) (leb-false (length bytes) room e))

module _ (terms : Terms) (set : ℕ) (values : List Float) where
  -- checking: what marking refuses ahead of its room comes first, then what the bytes say
  check-is : (s : List ℕ)
      → check_of terms set values s
      ≡ cond (eqb (refusal terms set values) 0) (judged set (marks_of terms set values) (said s)) (plain (refusal terms set values))
  unfolding check_of
  check-is s = each_first plain (ahead terms set values) (judged set (marks_of terms set values) (said s)) (ahead-numbers terms set values)

  -- writing: the same, then the room
  write-is : (room : ℕ)
      → write_of terms set values room
      ≡ cond (eqb (refusal terms set values) 0) (room_for (series_sheet terms set values) room) (refusal terms set values, 0)
  unfolding write_of
  write-is room =
      let whole = series_sheet terms set values in
      first-append (each (λ n. (n, 0)) (ahead terms set values)) ((ltb room (length whole), (6, 0)) ∷ []) (0, length whole)
      ∙ ap (first_of (each (λ n. (n, 0)) (ahead terms set values))) (in-room whole room)
      ∙ each_first (λ n. (n, 0)) (ahead terms set values) (room_for whole room) (ahead-numbers terms set values)

  module _ (none : refusal terms set values ≡ 0) where
    pub check_done : (s : List ℕ) → judged set (marks_of terms set values) (said s) ≡ check_of terms set values s
    check_done s = sym (check-is s ∙ simp (eq-eqb (refusal terms set values) 0 none))

    pub write_done : (room : ℕ) → room_for (series_sheet terms set values) room ≡ write_of terms set values room
    write_done room = sym (write-is room ∙ simp (eq-eqb (refusal terms set values) 0 none))

    pub room-done : (old : List ℕ) → at_front_if_room (series_sheet terms set values) old ≡ room_after terms set values old
    unfolding room_after
    room-done old = by (leb (length (series_sheet terms set values)) (length old)) refl
      where
        by : (b : Bool) → leb (length (series_sheet terms set values)) (length old) ≡ b
            → cond b (at_front (series_sheet terms set values) old) old
            ≡ cond (eqb (write_of terms set values (length old)).0 0) (at_front (series_sheet terms set values) old) old
        by true e = let done : write_of terms set values (length old) ≡ (0, length (series_sheet terms set values)) = sym (write_done (length old)) ∙ simp e in simp done
        by false e = let done : write_of terms set values (length old) ≡ (6, 0) = sym (write_done (length old)) ∙ simp e in simp done

  module _ (some : refusal terms set values ≡ 0 → ⊥) where
    pub check-refused : (s : List ℕ) → plain (refusal terms set values) ≡ check_of terms set values s
    check-refused s = sym (check-is s ∙ simp (ne_eqb (refusal terms set values) 0 some))

    pub write-refused : (room : ℕ) → (refusal terms set values, 0) ≡ write_of terms set values room
    write-refused room = sym (write-is room ∙ simp (ne_eqb (refusal terms set values) 0 some))

    pub room-refused : (old : List ℕ) → old ≡ room_after terms set values old
    unfolding room_after
    room-refused old =
        let number = ap (λ (a : ℕ × ℕ). a.0) (write-refused (length old)) in
        sym (simp (ne_eqb (write_of terms set values (length old)).0 0 (λ e. some (number ∙ e))))
