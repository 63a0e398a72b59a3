-- What marking answered, and left in a room that holds the marks of every value unless these are too many. Assumes nothing.
use Prim.Native.Nat.{ℕ, ◌≤◌}
use native.Mathlib.Omega.{arith}
use mathlib.Core.Path.{◌≡◌, sym, ap}
use mathlib.Core.List.{List}
use lib.Ieee.{Float}
use lib.ListN.{length, replicate, length-replicate}
use Rattle.std.specs.Prelude.{Result, Ok, Err, ⊤}
use Rattle.rules.specs.declared.Refusal.{Refusal}
use Rattle.rules.specs.Terms.{Terms}
use Rattle.rules.specs.Marking.{most, number, numbered, refusal, answer_of, marks_after}
use Rattle.rules.proofs.Accepted.{refusal_is, Made, made}
use Rattle.rules.proofs.Answers.{number-above}

module _ (terms : Terms) (set : ℕ) (values : List Float) (room : ℕ) (holds : length values ≤ most → length values ≤ room)
    (now : List ℕ) (r : Result ⊤ Refusal) (answer : numbered r ≡ answer_of terms set values (length (replicate {A = ℕ} room 0)))
  where
    holds-all : length values ≤ most → length values ≤ length (replicate {A = ℕ} room 0)
    holds-all few = omega (arith, holds few, length-replicate {A = ℕ} room 0)

    module _ (left : now ≡ marks_after terms set values (replicate room 0)) (is : r ≡ Ok tt) where
      pub marked-right : Made terms set values (replicate room 0) now
      marked-right = made terms set values (replicate room 0) now r holds-all answer (ap numbered is) left

      pub marked-fits : length values ≤ room
      marked-fits = omega (arith, marked-right.room, length-replicate {A = ℕ} room 0)

    module _ (why : Refusal) (is : r ≡ Err why) where
      pub refused-as : number why ≡ refusal terms set values
      refused-as = sym (refusal_is terms set values (length (replicate {A = ℕ} room 0)) holds-all r (Err why) answer is)

      pub was-refused : refusal terms set values ≡ 0 → ⊥
      was-refused e = omega (arith, number-above why, refused-as, e)
