-- A few roots, by computing `root_of`. Assumes nothing.
use Rattle.std.proofs.Common.{◌≡◌, true, pos, refl}
use lib.Ieee.{fin, binary64, of_bits}
use Rattle.std.specs.Prelude.{Ok}
use Rattle.root.specs.Root.{no_root, root_of}

-- 2.0
pub two : root_of (of_bits binary64 0x4000000000000000) ≡ Ok (of_bits binary64 0x3ff6a09e667f3bcd)
unfolding root_of of_bits
two = refl

pub largest : root_of (of_bits binary64 0x7fefffffffffffff) ≡ Ok (of_bits binary64 0x5fefffffffffffff)
unfolding root_of of_bits
largest = refl

pub minus-zero : root_of (fin true 0 (pos 0)) ≡ Ok (fin true 0 (pos 0))
unfolding root_of
minus-zero = refl

pub minus_one : root_of (fin true 1 (pos 0)) ≡ no_root
unfolding root_of
minus_one = refl
