-- The calls of a rule set: the number and the value that 01 has for each answer, and what each call answers (01, 'The nine tests',
-- last paragraph; 'Numbers a call may give back', rows 4 and 13, and Order). Definitions only.
use Rattle.std.specs.Prelude.{Bool, true, false, ◌&&◌, ◌||◌, not, List, [], ◌∷◌, map, ℕ, Result, eqb}
use Rattle.laws.specs.Bools.{count}
use Rattle.laws.specs.Refusals.{first_of}
use Rattle.numbers.specs.Numbers.{answered}
use Rattle.sets.specs.declared.Test.{Test}
use Rattle.sets.specs.declared.RuleSet.{RuleSet}
use Rattle.sets.specs.declared.Refusal.{Refusal}
use Rattle.sets.specs.declared.Refusal.TheVariants.{TooLarge, Unknown}
use Rattle.sets.specs.Sets.{bit_of, tests, too_large, has, set_of}

-- ---- 01's number of each refusal, and the number and the value of each answer. A refusal's value is zero, and no for a yes or no.

abbrev pub number : Refusal → ℕ
number TooLarge = 4
number Unknown = 13

abbrev pub chosen : Result RuleSet Refusal → ℕ × ℕ
chosen = answered number (λ set. set.mask) 0

abbrev pub contained : Result Bool Refusal → ℕ × Bool
contained = answered number (λ is. is) false

abbrev pub counted : Result ℕ Refusal → ℕ × ℕ
counted = answered number (λ tests. tests) 0

-- ---- with, without, contains and len

-- the two tests are one
abbrev pub is : Test → Test → Bool
is t u = eqb (bit_of t) (bit_of u)

-- refusal 4 with what it gives back, and else 0 with what is done
abbrev pub unless_too_large : {A : Type 0} → ℕ → A → A → ℕ × A
unless_too_large set nothing done = first_of ((too_large set, (4, nothing)) ∷ []) (0, done)

-- the set's tests, and t
unfoldable pub with_test : ℕ → Test → ℕ × ℕ
with_test set t = unless_too_large set 0 (set_of (λ u. has set u || is t u))

-- the set's tests but for t
unfoldable pub without_test : ℕ → Test → ℕ × ℕ
without_test set t = unless_too_large set 0 (set_of (λ u. has set u && not (is t u)))

-- whether t is one of the set's tests
unfoldable pub has_test : ℕ → Test → ℕ × Bool
has_test set t = unless_too_large set false (has set t)

-- how many tests the set has
unfoldable pub how_many : ℕ → ℕ × ℕ
how_many set = unless_too_large set 0 (count (map (has set) tests))

-- ---- named

-- two names are spelt the same, byte for byte
unfoldable pub same : List ℕ → List ℕ → Bool
same [] [] = true
same [] (b ∷ ys) = false
same (a ∷ xs) [] = false
same (a ∷ xs) (b ∷ ys) = eqb a b && same xs ys

-- s h e w h a r t
abbrev pub shewhart : List ℕ
shewhart = 115 ∷ 104 ∷ 101 ∷ 119 ∷ 104 ∷ 97 ∷ 114 ∷ 116 ∷ []

-- n e l s o n
abbrev pub nelson : List ℕ
nelson = 110 ∷ 101 ∷ 108 ∷ 115 ∷ 111 ∷ 110 ∷ []

-- w e s t e r n _ e l e c t r i c
abbrev pub western_electric : List ℕ
western_electric =
    119 ∷ 101 ∷ 115 ∷ 116 ∷ 101 ∷ 114 ∷ 110 ∷ 95 ∷ 101 ∷ 108 ∷ 101 ∷ 99 ∷ 116 ∷ 114 ∷ 105 ∷ 99 ∷ []

-- the mask of the set of that name, or refusal 13
unfoldable pub set_named : List ℕ → ℕ × ℕ
set_named name =
    first_of
    ((same name shewhart, (0, 1)) ∷ (same name nelson, (0, 255)) ∷ (same name western_electric, (0, 305)) ∷ [])
    (13, 0)
