-- What 01 asks of each promise ('What is fixed, and which shams it stops'): any two results that it allows for the same inputs coincide.
-- `Post` is the promise as the prover reads it off the source; the view is what a caller gets: the answer and the final contents of
-- every slice lent for writing. Assumes nothing.
use mathlib.Core.Path.{◌≡◌}
use mathlib.Core.List.{List}
use Prim.Native.Nat.{ℕ}
use contract.Lifetimes.{Lfts}
use borrow.Fn.Kinds.{ParamKind, ResultKind, Out, Dens, res_t, ended_of}
use denote.Triple.Clauses.{AtExit}

abbrev pub Coincide : (n : ℕ) (ps : List (ParamKind n)) (r : ResultKind n) (Post : Out n ps r) {Seen : Type 0}
    (view : (κs : Lfts n) → (res_t r κs).Denot → AtExit (ended_of n ps r) κs → Seen) → Type 0
Coincide n ps r Post view = (κs : Lfts n) (a : Dens κs ps) (x y : (res_t r κs).Denot) (s t : AtExit (ended_of n ps r) κs)
    → Post κs a x s → Post κs a y t → view κs x s ≡ view κs y t
