-- What the code's inner steps answer, on bit patterns. A reader need not believe it: no contract of a public function cites it, and the proof of
-- `root`'s own contract goes through it. Definitions only.
use Rattle.std.specs.Prelude.{◌≡◌, ℕ, ◌+◌, ◌*◌, ◌^◌, ◌<◌, ◌≤◌, from_bits}
use Rattle.std.specs.Float.{binary64}
use Rattle.root.specs.Root.{scaled, IsRoot}

-- the bits of +infinity: those of a finite number with a clear sign bit are below them
abbrev pub infinity : ℕ
infinity = 0x7ff0000000000000

-- n is s * 2^(p + 55), s has 53 binary digits, and p is in the range that a finite f64 above 0, times 4^591, has
pub record Form (n s p : ℕ) : Type 0 where
  pub least : 2 ^ 52 ≤ s
  pub most : s < 2 ^ 53
  pub first : 1 ≤ p
  pub last : p ≤ 2098
  pub is : n ≡ s * 2 ^ (p + 55)

-- so is the number whose bits are b, times 4^591
abbrev pub Places : (b s p : ℕ) → Type 0
Places b s p = Form (scaled (from_bits binary64 b)) s p

-- r is the bits of a finite number, which is the root of the number whose bits are b
pub record RootBits (b r : ℕ) : Type 0 where
  pub finite : r < infinity
  pub root : IsRoot (from_bits binary64 b) (from_bits binary64 r)
