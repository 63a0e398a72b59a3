-- What evidence says of marks: of a series that marking takes, the window is shown exactly where the mark stands; and nothing is shown where
-- the stops or the width mode are wrong. Assumes nothing.
use mathlib.Core.Path.{◌≡◌, refl, sym, ap, ap₂, ◌∙◌}
use mathlib.Core.Bool.{Bool, true, false, ◌&&◌, cond, and-false}
use mathlib.Core.List.{List, [], ◌∷◌}
use Prim.Native.Nat.{ℕ, zero, suc, ◌≤◌, ◌<◌}
use native.Mathlib.Omega.{arith}
use borrow.Author.Tests.{lt-ltb, le-ltb}
use lib.Dec.{eqb}
use lib.Ieee.{Float}
use lib.ListN.{length, take, get_or}
use Rattle.laws.specs.Bools.{every}
use Rattle.laws.proofs.Bools.{both}
use Rattle.floats.specs.Finite.{finite, all_finite}
use Rattle.floats.proofs.AllFinite.{finite-at}
use Rattle.stops.specs.Stops.{stops_wrong, main_points}
use Rattle.sets.specs.Sets.{tests, test_of, has}
use Rattle.rules.specs.Tests.{window}
use Rattle.rules.specs.Lines.{width_wrong}
use Rattle.rules.specs.Terms.{Terms}
use Rattle.rules.specs.Marking.{newest_first, stands, cuts_of, lines_for, marks_of}
use Rattle.rules.proofs.Meaning.{marked, marks-at}
use Rattle.rules.proofs.Accepted.{Accepted}
use Rattle.evidence.specs.Evidence.{nothing, shown_at, evidence_of}
use Rattle.evidence.proofs.Behind.{mode-is-wrong, stops-are-wrong}

-- ---- finite values are finite in any window

finite-newest : (cut : ℕ → Bool) (values : List Float) → all_finite values ≡ true → (n : ℕ) → n ≤ length values → all_finite (newest_first cut values n) ≡ true
unfolding newest_first all_finite every
finite-newest cut values e zero h = refl
finite-newest cut values e (suc i) h =
    ap₂ ◌&&◌ (finite-at values e i h) (by (cut i) (finite-newest cut values e i (omega arith)))
  where
    by : (b : Bool) → all_finite (newest_first cut values i) ≡ true → all_finite (cond b [] (newest_first cut values i)) ≡ true
    by true g = refl
    by false g = g

finite-take : (n : ℕ) (values : List Float) → all_finite values ≡ true → all_finite (take n values) ≡ true
unfolding all_finite every
finite-take zero values e = refl
finite-take (suc n) [] e = refl
finite-take (suc n) (v ∷ values) e =
    let parts = both (finite v) (all_finite values) e in
    ap₂ ◌&&◌ parts.0 (finite-take n values parts.1)

-- ---- shown and marked

pub shown-where-marked : (terms : Terms) (set : ℕ) (series : List Float) → Accepted terms set series → (at bit : ℕ) → at < length series → bit < 9
    → has set (test_of bit) ≡ true → shown_at series terms at bit ≡ has (get_or (marks_of terms set series) at 0) (test_of bit)
unfolding shown_at tests
shown-where-marked terms set series taken at bit h k its =
    let t = test_of bit in
    let past = newest_first (cuts_of terms) series (suc at) in
    let all : all_finite (take (window t) past) ≡ true = finite-take (window t) past (finite-newest (cuts_of terms) series taken.finite (suc at) h) in
    simp (lt-ltb at (length series) h, lt-ltb bit 9 k, taken.stopped, le-ltb 1 terms.width taken.mode, taken.sound, all)
    (sym (ap (λ (m : ℕ). has m t) (marks-at terms set series at h)
    ∙ marked (cuts_of terms) (lines_for terms) set series at t
    ∙ ap (λ (b : Bool). b && stands (lines_for terms) past t) its))

-- ---- "evidence gives its empty part for bad stops" (02, R-1), wherever they lie

pub nothing-for-bad-stops : (main dispersion : List Float) (number : ℕ) (terms : Terms) (at bit : ℕ)
    → stops_wrong (main_points terms.moving (length (cond (eqb number 0) main dispersion))) terms.stops ≡ true
    → evidence_of main dispersion number terms at bit ≡ nothing
unfolding evidence_of
nothing-for-bad-stops main dispersion number terms at bit wrong =
    simp (stops-are-wrong (cond (eqb number 0) main dispersion) terms at bit wrong, and-false)

-- ---- "evidence gives its empty part" for a mode that is not 0 or 1 (02, R-5)

pub nothing-for-a-bad-mode : (main dispersion : List Float) (number : ℕ) (terms : Terms) (at bit : ℕ)
    → width_wrong terms.width ≡ true → evidence_of main dispersion number terms at bit ≡ nothing
unfolding evidence_of
nothing-for-a-bad-mode main dispersion number terms at bit wrong =
    simp (mode-is-wrong (cond (eqb number 0) main dispersion) terms at bit wrong, and-false)
