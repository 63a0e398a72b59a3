-- The words of a line, one by one. Assumes nothing.
use mathlib.Core.Path.{◌≡◌, ap}
use mathlib.Core.List.{List, [], ◌∷◌, ◌++◌}
use Prim.Native.Nat.{ℕ, ◌+◌, ◌≤◌, ◌<◌}
use native.Mathlib.Numerals.{add-one}
use lib.ListN.{length, get_or, drop, drop_of_length-le}
use lib.Seq.{drop-cons}
use Rattle.reports.specs.declared.text.Word.{Word}
use Rattle.reports.specs.Text.{spaced}
use Rattle.reports.specs.TextSteps.{word_of, words_of}

-- ---- the next entry of a list that is gone through

pub next-is : {A : Type 0} (xs : List A) (i : ℕ) (z : A) → i < length xs → drop i xs ≡ get_or xs i z ∷ drop (i + 1) xs
next-is xs i z h = rw (add-one i) (drop-cons xs i z h)

-- ---- the words of a line

-- what is to come when the first i words stand
abbrev pub words_left : List Word → ℕ → List ℕ
words_left ws i = spaced (words_of (drop i ws))

pub words-next : (ws : List Word) (i : ℕ) (z : Word) → i < length ws
    → words_left ws i ≡ (32 ∷ []) ++ (word_of (get_or ws i z) ++ words_left ws (i + 1))
unfolding spaced words_of
words-next ws i z h = ap (λ (l : List Word). spaced (words_of l)) (next-is ws i z h)

pub words_last : (ws : List Word) (i : ℕ) → length ws ≤ i → words_left ws i ≡ 10 ∷ []
unfolding spaced words_of
words_last ws i h = ap (λ (l : List Word). spaced (words_of l)) (drop_of_length-le ws h)
