-- The evidence as a part of its series: the window that ends at the position, or nothing. Assumes nothing.
use mathlib.Core.Path.{◌≡◌, sym, ap, ap₂, ◌∙◌}
use mathlib.Core.Bool.{Bool, true, false, cond}
use mathlib.Core.List.{List}
use Prim.Native.Nat.{ℕ, suc, ◌+◌, ◌-◌, ◌≤◌}
use native.Mathlib.Omega.{arith}
use borrow.Author.Tests.{lt-leb}
use lib.Ieee.{Float}
use Rattle.std.specs.Prelude.{Option, Some, None, MatchOption, unwrap_or}
use Rattle.std.specs.Borrow.{Bor}
use Rattle.sets.specs.declared.Test.{Test}
use Rattle.sets.specs.Sets.{test_of, test_at}
use Rattle.sets.proofs.Sets.{was-found}
use Rattle.rules.specs.Tests.{window}
use Rattle.rules.specs.Terms.{Terms}
use Rattle.evidence.specs.Evidence.{Part, nothing, part_at, shown_at, evidence_of, IsPart}

-- the n values of the window of the test that the code finds
pub part-by-window : (second : Bool) (at bit : ℕ) (t : Test) → test_at bit ≡ Some t → (n : ℕ) → n ≡ window t → n ≤ at + 1
    → part_at second at bit ≡ record { second = second; start = at + 1 - n; long = at + 1 - (at + 1 - n) }
part-by-window second at bit t is n long fits =
    let longs : n ≡ window (test_of bit) = long ∙ ap window (sym (was-found bit t is).1) in
    let start : suc at - window (test_of bit) ≡ at + 1 - n = omega (arith, longs) in
    let length-is : window (test_of bit) ≡ at + 1 - (at + 1 - n) = omega (arith, longs) in
    ap₂ (λ (x y : ℕ). record { second = second; start = x; long = y }) start length-is

module _ (main dispersion : List Float) (number : ℕ) (terms : Terms) (at bit : ℕ) where
  pub main-part : number ≡ 0 → shown_at main terms at bit ≡ true → evidence_of main dispersion number terms at bit ≡ part_at false at bit
  unfolding evidence_of
  main-part e s = simp (e, s)

  pub main-none : number ≡ 0 → shown_at main terms at bit ≡ false → evidence_of main dispersion number terms at bit ≡ nothing
  unfolding evidence_of
  main-none e s = simp (e, s)

  pub second-part : number ≡ 1 → shown_at dispersion terms at bit ≡ true → evidence_of main dispersion number terms at bit ≡ part_at true at bit
  unfolding evidence_of
  second-part e s = simp (e, s)

  pub second_none : number ≡ 1 → shown_at dispersion terms at bit ≡ false → evidence_of main dispersion number terms at bit ≡ nothing
  unfolding evidence_of
  second_none e s = simp (e, s)

  pub no-series : 2 ≤ number → evidence_of main dispersion number terms at bit ≡ nothing
  unfolding evidence_of
  no-series h = simp (lt-leb number 1 h)

-- ---- a part in memory: that of the window which was found, or the empty one

module _ (main dispersion : Bor (List Float)) (second : Bool) (at bit : ℕ) where
  abbrev whole : Bor (List Float)
  whole = cond second dispersion main

  -- a part of one series is one of both
  placed : (part : Bor (List Float)) → IsPart whole whole part (part_at false at bit) → IsPart main dispersion part (part_at second at bit)
  placed part p = by second p
    where
      by : (b : Bool) → IsPart (cond b dispersion main) (cond b dispersion main) part (part_at false at bit) → IsPart main dispersion part (part_at b at bit)
      by true q = record { block = q.block; place = q.place; values = q.values }
      by false q = record { block = q.block; place = q.place; values = q.values }

  pub part_of : (shown : Bool) (e : Part) (empty r : Bor (List Float)) (o : Option (Bor (List Float)))
      → MatchOption o (shown ≡ false) (λ part. (shown ≡ true) × IsPart whole whole part (part_at false at bit))
      → r ≡ unwrap_or o empty → IsPart main dispersion empty nothing
      → (shown ≡ true → e ≡ part_at second at bit) → (shown ≡ false → e ≡ nothing) → IsPart main dispersion r e
  part_of shown e empty r None found is none found-there not-there = rw (is, not-there found) none
  part_of shown e empty r (Some part) found is none found-there not-there = rw (is, found-there found.0) (placed part found.1)
