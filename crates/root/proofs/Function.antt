-- The function `root_of` gives the answer that is allowed, and the only one. Assumes nothing.
use Rattle.std.proofs.Common.{◌≡◌, ℕ, zero, suc, ◌+◌, ◌-◌, ◌*◌, ◌/◌, ◌^◌, ◌<◌, ◌≤◌, Bool, true, false, cond, not, T, leb, refl, ap, ◌∙◌, le_trans, mul-le-mul_right, le_antisymm, pow-suc, mul-div_cancel, arith, leb→le, pow-add, shl_lt}
use lib.Dec.{nleb→lt}
use lib.Ieee.{Float, nan, inf, fin, binary64, odd, size, fits}
use lib.Ieee.Digits.{size-le}
use Rattle.std.specs.Prelude.{Result}
use Rattle.numbers.proofs.Numbers.{Telling, answered-one}
use Rattle.root.specs.declared.NoRoot.{NoRoot}
use Rattle.root.specs.Root.{scaled, IsRoot, Allowed, floor_root, root_at, root_of, number, numbered}
use Rattle.root.specs.Steps.{Form}
use Rattle.root.proofs.Squares.{Floor, square-next, square-twice, square-odd, four-positive}
use Rattle.root.proofs.Nearest.{rounded}
use Rattle.root.proofs.Unique.{allowed-unique}
use Rattle.root.proofs.Form.{top_digit, form_of}
use Rattle.root.proofs.Halving.{lead, half, lead-most, halved, found}

-- ---- `floor_root` is the whole part of the root
floor-next : (r n : ℕ) → Floor r (n / 4) → (b : Bool) → (T b → (2 * r + 1) * (2 * r + 1) ≤ n) → (T (not b) → n < (2 * r + 1) * (2 * r + 1))
    → Floor (cond b (2 * r + 1) (2 * r)) n
floor-next r n f true under over = (under tt, omega (arith, f.1, square-next (2 * r + 1), square-odd r, square-next r))
floor-next r n f false under over = (omega (arith, f.0, square-twice r), over tt)

floor-is : (d n : ℕ) → n < 4 ^ d → Floor (floor_root d n) n
unfolding floor_root
floor-is zero n h = (omega arith, h)
floor-is (suc d) n h =
    let r = floor_root d (n / 4) in
    let t = (2 * r + 1) * (2 * r + 1) in
    floor-next r n (floor-is d (n / 4) (omega (arith, pow-suc 4 d))) (leb t n) (leb→le t n) (nleb→lt t n)

-- ---- `root_at` is a root
size_is : {n s p : ℕ} → Form n s p → size n ≡ p + 108
size_is {n} {s} {p} f =
    let hi : n < 2 ^ (53 + (p + 55)) = rw f.is (shl_lt 53 (p + 55) f.most) in
    let lo : 2 ^ (52 + (p + 55)) ≤ n = rw (f.is, pow-add 2 52 (p + 55)) (mul-le-mul_right (2 ^ (p + 55)) f.least) in
    le_antisymm (le_trans (size-le n (53 + (p + 55)) hi) (omega arith)) (le_trans (omega arith) (top_digit n (52 + (p + 55)) lo))

root_at-is : {n s p : ℕ} → Form n s p → root_at n ≡ odd 53 false (rounded (floor_root 54 (lead s p * 2 ^ 54))) (half p) 589
unfolding root_at
root_at-is {n} {s} {p} f =
    let k : (size n - 109) / 2 ≡ half p = rw (size_is f) (omega arith) in
    let a : n / 4 ^ (half p + 1) ≡ lead s p * 2 ^ 54 = rw (halved f) (mul-div_cancel (lead s p * 2 ^ 54) (four-positive (half p + 1))) in
    ap (λ (j : ℕ). odd 53 false (rounded (floor_root 54 (n / 4 ^ (j + 1)))) j 589) k
    ∙ ap (λ (y : ℕ). odd 53 false (rounded (floor_root 54 y)) (half p) 589) a

root_at-root : (x : Float) {s p : ℕ} → Form (scaled x) s p → IsRoot x (root_at (scaled x))
root_at-root x {s} {p} f =
    let a = lead s p * 2 ^ 54 in
    rw (root_at-is f) (found x s p (floor_root 54 a) f (floor-is 54 a (omega (arith, lead-most s p f.most))))

-- ---- what the function answers is allowed, and what is allowed is what the function answers
pub allowed-root_of : (x : Float) → T (fits binary64 x) → Allowed x (numbered (root_of x))
unfolding Allowed root_of
allowed-root_of nan t = refl
allowed-root_of (inf s) t = refl
allowed-root_of (fin s zero e) t = refl
allowed-root_of (fin true (suc m) e) t = refl
allowed-root_of (fin false (suc m) e) t =
    (root_at (scaled (fin false (suc m) e)), refl, root_at-root (fin false (suc m) e) (form_of false m e t).2)

-- two answers with 01's same number and value are the same
tells : Telling number
tells = record { not_done = λ why e. omega arith; one = λ a b e. refl }

pub numbered-one : (a b : Result Float NoRoot) → numbered a ≡ numbered b → a ≡ b
numbered-one = answered-one tells _ _ (λ r q e. e)

pub root_of-only : (x : Float) (a : Result Float NoRoot) → T (fits binary64 x) → Allowed x (numbered a) → a ≡ root_of x
root_of-only x a t p = numbered-one a (root_of x) (allowed-unique x (numbered a) (numbered (root_of x)) p (allowed-root_of x t))
