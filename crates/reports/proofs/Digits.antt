-- The digits of a number, one by one, and how many there are. Assumes nothing.
use mathlib.Core.Path.{◌≡◌, refl, sym, ap, ◌∙◌}
use mathlib.Core.Bool.{Bool, true, false}
use mathlib.Core.List.{List, [], ◌∷◌, ◌++◌}
use Prim.Native.Nat.{ℕ, zero, suc, pred, ◌+◌, ◌-◌, ◌/◌, ◌%◌, ◌^◌, ◌≤◌, ◌<◌}
use native.Mathlib.Nat.{pow-suc}
use native.Mathlib.Omega.{arith}
use lib.Dec.{ltb}
use lib.ListN.{length, length-append}
use borrow.Author.Tests.{lt-ltb, le-ltb, ltb-true, ltb-false}
use Rattle.laws.proofs.Digits.{by_digits}
use Rattle.reports.specs.Text.{glyph, decimal_in, decimal, digits}

-- ---- decimal digits

in_one : (k x : ℕ) → x < 10 → decimal_in k x ≡ glyph x ∷ []
unfolding decimal_in
in_one zero x h = refl
in_one (suc k) x h = rw (lt-ltb x 10 h, decimal_in)

in-more : (k x : ℕ) → 10 ≤ x → decimal_in (suc k) x ≡ decimal_in k (x / 10) ++ (glyph (x % 10) ∷ [])
unfolding decimal_in
in-more k x h = rw (le-ltb x 10 h, decimal_in)

-- any first number that is at least x gives the same digits
enough : (x k : ℕ) → x ≤ k → decimal_in k x ≡ decimal x
unfolding decimal
enough = by_digits 10 (omega arith) (λ (x : ℕ). (k : ℕ) → x ≤ k → decimal_in k x ≡ decimal_in x x)
    (λ x h k l. in_one k x h ∙ sym (in_one x x h))
    (λ x h ih k l.
    let k-is : k ≡ suc (pred k) = omega arith in
    let x-is : x ≡ suc (pred x) = omega arith in
    let step : (j : ℕ) → x ≤ suc j → decimal_in (suc j) x ≡ decimal_in (x / 10) (x / 10) ++ (glyph (x % 10) ∷ []) =
    λ j g. in-more j x h ∙ ap (λ (w : List ℕ). w ++ (glyph (x % 10) ∷ [])) (ih j (omega arith)) in
    ap (λ (j : ℕ). decimal_in j x) k-is ∙ step (pred k) (omega arith)
    ∙ sym (ap (λ (j : ℕ). decimal_in j x) x-is ∙ step (pred x) (omega arith)))

pub decimal-one : (x : ℕ) → x < 10 → decimal x ≡ glyph x ∷ []
unfolding decimal
decimal-one x h = in_one x x h

pub decimal-more : (x : ℕ) → 10 ≤ x → decimal x ≡ decimal (x / 10) ++ (glyph (x % 10) ∷ [])
decimal-more x h =
    let x-is : x ≡ suc (pred x) = omega arith in
    sym (enough x x (omega arith))
    ∙ ap (λ (j : ℕ). decimal_in j x) x-is
    ∙ in-more (pred x) x h
    ∙ ap (λ (w : List ℕ). w ++ (glyph (x % 10) ∷ [])) (enough (x / 10) (pred x) (omega arith))

-- ---- how many there are

pub length-one : (x : ℕ) → x < 10 → length (decimal x) ≡ 1
length-one x h = ap length (decimal-one x h)

pub length_more : (x : ℕ) → 10 ≤ x → length (decimal x) ≡ length (decimal (x / 10)) + 1
length_more x h = ap length (decimal-more x h) ∙ length-append (decimal (x / 10)) (glyph (x % 10) ∷ [])

pub decimal-some : (x : ℕ) → 0 < length (decimal x)
decimal-some = by_digits 10 (omega arith) (λ (x : ℕ). 0 < length (decimal x))
    (λ x h. omega (arith, length-one x h))
    (λ x h ih. omega (arith, length_more x h))

-- a number below 10 ^ (k + 1) has at most k + 1 digits
pub below_power : (k x : ℕ) → x < 10 ^ suc k → length (decimal x) ≤ suc k
below_power zero x h = omega (arith, length-one x (omega arith))
below_power (suc k) x h = by (ltb x 10) refl (below_power k (x / 10))
  where
    by : (t : Bool) → ltb x 10 ≡ t → (x / 10 < 10 ^ suc k → length (decimal (x / 10)) ≤ suc k) → length (decimal x) ≤ suc (suc k)
    by true e ih = omega (arith, length-one x (ltb-true x 10 e))
    by false e ih = omega (arith, length_more x (ltb-false x 10 e), ih (omega (arith, pow-suc 10 (suc k))))

some-power : (k : ℕ) → 0 < 10 ^ k
some-power zero = omega arith
some-power (suc k) = omega (arith, pow-suc 10 k, some-power k)

-- and one that is not below 10 ^ k has more than k
pub above_power : (k x : ℕ) → 10 ^ k ≤ x → k < length (decimal x)
above_power zero x h = decimal-some x
above_power (suc k) x h =
    let ten : 10 ≤ x = omega (arith, pow-suc 10 k, some-power k) in
    omega (arith, length_more x ten, above_power k (x / 10) (omega (arith, pow-suc 10 k)))

-- ---- digits in a base

pub digits-none : (base k x : ℕ) → k ≡ 0 → digits base k x ≡ []
unfolding digits
digits-none base k x e = ap (λ (j : ℕ). digits base j x) e

pub digits_more : (base k x : ℕ) → (k ≡ 0 → ⊥) → digits base k x ≡ digits base (k - 1) (x / base) ++ (glyph (x % base) ∷ [])
unfolding digits
digits_more base k x h =
    let k-is : k ≡ suc (k - 1) = omega arith in
    ap (λ (j : ℕ). digits base j x) k-is

pub length_digits : (base k x : ℕ) → length (digits base k x) ≡ k
unfolding digits
length_digits base zero x = refl
length_digits base (suc k) x =
    length-append (digits base k (x / base)) (glyph (x % base) ∷ []) ∙ omega (arith, length_digits base k (x / base))

-- the decimal digits are that many digits in the base ten
pub decimal-digits : (x : ℕ) → digits 10 (length (decimal x)) x ≡ decimal x
decimal-digits = by_digits 10 (omega arith) (λ (x : ℕ). digits 10 (length (decimal x)) x ≡ decimal x)
    (λ x h.
    let last : x % 10 ≡ x = omega arith in
    ap (λ (k : ℕ). digits 10 k x) (length-one x h) ∙ one x ∙ ap (λ (d : ℕ). glyph d ∷ []) last ∙ sym (decimal-one x h))
    (λ x h ih.
    let k-is : length (decimal x) - 1 ≡ length (decimal (x / 10)) = omega (arith, length_more x h) in
    digits_more 10 (length (decimal x)) x (λ z. omega (arith, length_more x h))
    ∙ ap (λ (l : List ℕ). l ++ (glyph (x % 10) ∷ [])) (ap (λ (k : ℕ). digits 10 k (x / 10)) k-is ∙ ih)
    ∙ sym (decimal-more x h))
  where
    one : (x : ℕ) → digits 10 1 x ≡ glyph (x % 10) ∷ []
    one x = digits_more 10 1 x (λ z. omega arith) ∙ ap (λ (l : List ℕ). l ++ (glyph (x % 10) ∷ [])) (digits-none 10 0 (x / 10) refl)
