-- The root of an f64, by document 01: "The charts" says which f64 the root is, "Numbers a call may give back" what is refused.
-- What has to be believed is `Allowed`. That it leaves one answer, which the function `root_of` computes, is proved (`allowed-unique`,
-- `allowed-root_of`, `root_of-only`). Definitions only.
use Rattle.std.specs.Prelude.{◌≡◌, ℕ, zero, suc, ◌+◌, ◌-◌, ◌*◌, ◌/◌, ◌^◌, ◌<◌, ◌≤◌, true, false, cond, T, pos, ◌==◌, nat_le, Float, Result, Ok, Err}
use Rattle.std.specs.Float.{nan, inf, fin, binary64}
use Rattle.std.specs.Float.Ieee.{fits, up, down, odd, size}
use Rattle.std.specs.Float.Ieee.Exact.{HasValue}
use Rattle.numbers.specs.Numbers.{answered}
use Rattle.root.specs.declared.NoRoot.{NoRoot}

-- ---- "The root must be the nearest f64"

-- "Each side is taken times 4^591, so that all of it is in whole numbers": x * 4^591, the sign left out. A finite Float `fin s m e` is m * 2^e,
-- and `up e / down e` is 2^e. For a finite f64 the division leaves nothing (`scaled_exact`).
unfoldable pub scaled : Float → ℕ
scaled nan = 0
scaled (inf s) = 0
scaled (fin s m e) = m * up e * 4 ^ 591 / down e

-- "the answer is m * 2^e": the least root is that of the smallest subnormal, 2^-1074, and it is 2^-537 = 2^52 * 2^-589. So the least e of a root
-- is -589, and here e is k - 589 with k from 0. Then e - 1 + 591 is k + 1, so 4^(e-1), times 4^591, is 4^(k+1); and e - 2 + 591 is k, so
-- 4^(e-2), times 4^591, is 4^k. No smaller power than 4^591 makes that whole at every k.

-- "(2m-1)^2 * 4^(e-1) < x", and "if m = 2^52 the lower test is (4m-1)^2 * 4^(e-2) < x": the left side, times 4^591
unfoldable pub lower : ℕ → ℕ → ℕ
lower m k = cond (m == 2 ^ 52) ((4 * m - 1) * (4 * m - 1) * 4 ^ k) ((2 * m - 1) * (2 * m - 1) * 4 ^ (k + 1))

-- "x < (2m+1)^2 * 4^(e-1)": the right side, times 4^591
unfoldable pub upper : ℕ → ℕ → ℕ
upper m k = (2 * m + 1) * (2 * m + 1) * 4 ^ (k + 1)

-- "For finite x > 0 the answer is m * 2^e with 2^52 <= m < 2^53", and the two tests. r is an f64 (the format holds it), its sign bit is
-- clear, and its value is the fraction m * 2^k / 2^589.
pub record IsRoot (x r : Float) : Type 0 where
  pub m : ℕ
  pub k : ℕ
  pub least : 2 ^ 52 ≤ m
  pub most : m < 2 ^ 53
  pub format : T (fits binary64 r)
  pub value : HasValue r false (m * 2 ^ k) (2 ^ 589)
  pub below : lower m k < scaled x
  pub above : scaled x < upper m k

-- ---- "Numbers a call may give back"

-- the number, and the value that goes with it
abbrev pub Answer : Type 0
Answer = ℕ × Float

-- "0: done"
abbrev pub done : Float → Answer
done r = (0, r)

-- "3: a value or limit is not finite; for the root also x < 0"
abbrev pub number : NoRoot → ℕ
number why = 3

-- "a refusal gives back .. zero for numbers": +0.0
abbrev pub refusal : Answer
refusal = (3, fin false 0 (pos 0))

abbrev pub numbered : Result Float NoRoot → Answer
numbered = answered number (λ r. r) (fin false 0 (pos 0))

-- what may be answered at x: 3 "exactly then", "the root of ±0 is the same zero", and the nearest f64
unfoldable pub Allowed : Float → Answer → Type 0
Allowed nan a = a ≡ refusal
Allowed (inf s) a = a ≡ refusal
Allowed (fin s zero e) a = a ≡ done (fin s zero e)
Allowed (fin true (suc m) e) a = a ≡ refusal
Allowed (fin false (suc m) e) a = (r : Float) × (a ≡ done r) × IsRoot (fin false (suc m) e) r

-- ---- the answer as a function, for other definitions to cite

-- the whole part of the root of an n below 4^d, by its binary digits
unfoldable pub floor_root : ℕ → ℕ → ℕ
floor_root zero n = 0
floor_root (suc d) n = let r = floor_root d (n / 4) in cond (nat_le ((2 * r + 1) * (2 * r + 1)) n) (2 * r + 1) (2 * r)

-- The root, from n = x * 4^591. k is such that the root of n / 4^(k+1) has 54 binary digits, one more than m: m is half of it, rounded up.
unfoldable pub root_at : ℕ → Float
unfolding floor_root odd size
root_at n = let k = (size n - 109) / 2 in odd 53 false ((floor_root 54 (n / 4 ^ (k + 1)) + 1) / 2) k 589

abbrev pub no_root : Result Float NoRoot
no_root = Err (record {})

unfoldable pub root_of : Float → Result Float NoRoot
unfolding root_at scaled
root_of nan = no_root
root_of (inf s) = no_root
root_of (fin s zero e) = Ok (fin s zero e)
root_of (fin true (suc m) e) = no_root
root_of (fin false (suc m) e) = Ok (root_at (scaled (fin false (suc m) e)))
