-- The two tests leave one answer: two roots of a number are equal, and so are two answers that `Allowed` allows. Assumes nothing.
use Rattle.std.proofs.Common.{◌≡◌, ℕ, zero, suc, ◌+◌, ◌-◌, ◌*◌, ◌^◌, ◌<◌, ◌≤◌, Bool, true, false, cond, eqb, ◌⊎◌, sym, refl, ap, ◌∙◌, inl, inr, ⊎_elim, lt_trans, le_of_suc-le-suc, mul-le-mul_right, mul_assoc, le_antisymm, lt_of_mul-lt-mul_right, mul-pos, pow-suc, lt_of_not-le, mul_left_comm, arith, pow_pos, pow_mono, eqb-true}
use borrow.Author.Tests.{eqb-false}
use lib.Ieee.{Float, nan, inf, fin}
use Rattle.root.specs.Root.{lower, upper, IsRoot, Allowed, Answer, done}
use Rattle.root.proofs.Squares.{square-back, square-scaled, two-next}
use Rattle.root.proofs.Value.{value-unique}

-- ---- the bounds of the tests are squares of multiples of 2^k
low : ℕ → ℕ
low m = cond (eqb m (2 ^ 52)) (4 * m - 1) (2 * (2 * m - 1))

high : ℕ → ℕ
high m = 2 * (2 * m + 1)

square-further : (c k : ℕ) → c * c * 4 ^ (k + 1) ≡ 2 * c * 2 ^ k * (2 * c * 2 ^ k)
square-further c k = square-scaled c (k + 1) ∙ ap (λ (x : ℕ). x * x) (rw two-next (mul_left_comm c 2 (2 ^ k) ∙ sym (mul_assoc 2 c (2 ^ k))))

-- the lower bound, where m is the least and where it is not
abbrev AtLeast : (m k : ℕ) → Type 0
AtLeast m k = (m ≡ 2 ^ 52) × (low m ≡ 4 * m - 1) × (lower m k ≡ (4 * m - 1) * (4 * m - 1) * 4 ^ k)

abbrev Above : (m k : ℕ) → Type 0
Above m k = (m ≡ 2 ^ 52 → ⊥) × (low m ≡ 2 * (2 * m - 1)) × (lower m k ≡ (2 * m - 1) * (2 * m - 1) * 4 ^ (k + 1))

low-is : (m k : ℕ) → AtLeast m k ⊎ Above m k
unfolding lower low
low-is m k = either (eqb m (2 ^ 52)) refl
  where
    either : (b : Bool) → eqb m (2 ^ 52) ≡ b → AtLeast m k ⊎ Above m k
    either true e = inl (eqb-true m (2 ^ 52) e, rw e, rw e)
    either false e = inr (eqb-false m (2 ^ 52) e, rw e, rw e)

lower-square : (m k : ℕ) → lower m k ≡ low m * 2 ^ k * (low m * 2 ^ k)
lower-square m k = ⊎_elim
    (λ (l : AtLeast m k). rw l.1 (l.2 ∙ square-scaled (4 * m - 1) k))
    (λ (l : Above m k). rw l.1 (l.2 ∙ square-further (2 * m - 1) k))
    (low-is m k)

upper-square : (m k : ℕ) → upper m k ≡ high m * 2 ^ k * (high m * 2 ^ k)
unfolding upper high
upper-square m k = square-further (2 * m + 1) k

low_near : (m : ℕ) → 4 * m ≤ low m + 2
low_near m = ⊎_elim (λ (l : AtLeast m 0). omega (arith, l.1)) (λ (l : Above m 0). omega (arith, l.1)) (low-is m 0)

low-least : (m : ℕ) → 2 ^ 52 ≤ m → 2 ^ 54 - 1 ≤ low m
low-least m h = ⊎_elim (λ (l : AtLeast m 0). omega (arith, l.1)) (λ (l : Above m 0). omega (arith, l.0, l.1)) (low-is m 0)

-- ---- the lower bound of one root is below the upper bound of any other
module _ {x r r' : Float} (p : IsRoot x r) (q : IsRoot x r') where
  crossed : low p.m * 2 ^ p.k < high q.m * 2 ^ q.k
  crossed =
      square-back (low p.m * 2 ^ p.k) (high q.m * 2 ^ q.k)
      (rw (← lower-square p.m p.k, ← upper-square q.m q.k) (lt_trans p.below q.above))

  no-higher : p.k ≤ q.k
  unfolding high
  no-higher =
      le_of_suc-le-suc
      (lt_of_not-le (λ (g : suc q.k ≤ p.k).
      let a : (2 ^ 54 - 1) * 2 ^ p.k ≤ low p.m * 2 ^ p.k = mul-le-mul_right (2 ^ p.k) (low-least p.m p.least) in
      let b : high q.m * 2 ^ q.k ≤ 2 * (2 ^ 54 - 1) * 2 ^ q.k = mul-le-mul_right (2 ^ q.k) (omega (arith, q.most)) in
      let c : 2 ^ suc q.k ≤ 2 ^ p.k = pow_mono g in
      omega (arith, crossed, pow-suc 2 q.k)))

  not_more : p.k ≡ q.k → p.m ≤ q.m
  unfolding high
  not_more e =
      let h : low p.m * 2 ^ p.k < high q.m * 2 ^ p.k = rw e (rw e at crossed) in
      omega (arith, lt_of_mul-lt-mul_right (2 ^ p.k) h, low_near p.m)

pub root-unique : (x r r' : Float) → IsRoot x r → IsRoot x r' → r ≡ r'
root-unique x r r' p q =
    let k : p.k ≡ q.k = le_antisymm (no-higher p q) (no-higher q p) in
    let m : p.m ≡ q.m = le_antisymm (not_more p q k) (not_more q p (sym k)) in
    value-unique r r' (q.m * 2 ^ q.k) (2 ^ 589) (mul-pos (omega (arith, q.least)) (pow_pos q.k)) (pow_pos 589) p.format q.format
    (rw (m, k) at p.value) q.value

pub allowed-unique : (x : Float) (a b : Answer) → Allowed x a → Allowed x b → a ≡ b
unfolding Allowed
allowed-unique nan a b p q = p ∙ sym q
allowed-unique (inf s) a b p q = p ∙ sym q
allowed-unique (fin s zero e) a b p q = p ∙ sym q
allowed-unique (fin true (suc m) e) a b p q = p ∙ sym q
allowed-unique (fin false (suc m) e) a b p q = p.1 ∙ ap done (root-unique (fin false (suc m) e) p.0 q.0 p.2 q.2) ∙ sym q.1
