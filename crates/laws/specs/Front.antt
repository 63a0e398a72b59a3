-- What a lent slice holds after its front was written or the call was refused, and what the call answers. Definitions only.
use Rattle.std.specs.Prelude.{cond, List, ◌++◌, ℕ, length, drop, replicate, leb, eqb}

module _ {A : Type 0} where
  -- xs at the front, and past the last entry written what lay there before (01, 'The charts', last sentence)
  abbrev pub at_front : List A → List A → List A
  at_front xs old = xs ++ drop (length xs) old

  -- the same where the slice is long enough; a shorter one is as it came (01, refusal 6)
  abbrev pub at_front_if_room : List A → List A → List A
  at_front_if_room xs old = cond (leb (length xs) (length old)) (at_front xs old) old

  -- the answer of such a call, where nothing else is refused: 01's number, and how many entries were written; 6 where the slice is shorter
  abbrev pub room_for : List A → ℕ → ℕ × ℕ
  room_for xs room = cond (leb (length xs) room) (0, length xs) (6, 0)

  -- A lent slice after the number n was answered: what was to be written stands at its front; "for 7 .. zero throughout"; at any other
  -- refusal "as it came" (01, 'Numbers a call may give back').
  unfoldable pub lent_after : ℕ → A → List A → List A → List A
  lent_after n nought written old = cond (eqb n 0) (at_front written old) (cond (eqb n 7) (replicate (length old) nought) old)
