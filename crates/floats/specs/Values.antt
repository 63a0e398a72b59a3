-- Some f64s by what they stand for. Definitions only.
use Rattle.std.specs.Prelude.{ℕ, ◌^◌, false, pos, Float}
use Rattle.std.specs.Float.{binary64}
use Rattle.std.specs.Float.Ieee.{of_bits, of_int, round}

-- +0.0
abbrev pub plus_zero : Float
plus_zero = of_bits binary64 0

-- a count as an f64
abbrev pub whole : ℕ → Float
whole n = of_int binary64 (pos n)

-- n / 10^k: `decimal 3 1880` is the source's 1.880
abbrev pub decimal : ℕ → ℕ → Float
decimal k n = round binary64 false n (10 ^ k)
