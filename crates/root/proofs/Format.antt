-- What `fits binary64` says of a finite number that is not 0, taken apart. Assumes nothing.
use Rattle.std.proofs.Common.{◌≡◌, ℕ, suc, ◌*◌, ◌%◌, ◌^◌, ◌<◌, ◌≤◌, Bool, ◌&&◌, T, eqb, ltb, leb, ℤ, eqb→eq, ltb→lt, leb→le}
use lib.Ieee.{fin, binary64, fits, up, down}
use lib.Ieee.Fits.{and_l, and_r}

-- the number q * 2^e
pub record Fitting (q : ℕ) (e : ℤ) : Type 0 where
  pub odd : q % 2 ≡ 1
  pub short : q < 2 ^ 53
  pub fine : down e ≤ 2 ^ 1074
  pub bounded : q * up e < 2 ^ 1024 * down e

pub fitting : (s : Bool) (m : ℕ) (e : ℤ) → T (fits binary64 (fin s (suc m) e)) → Fitting (suc m) e
unfolding fits
fitting s m e t =
    let q = suc m in
    let A = eqb (q % 2) 1 in
    let B = ltb q (2 ^ 53) in
    let C = leb (down e) (2 ^ 1074) in
    let D = ltb (q * up e) (2 ^ 1024 * down e) in
    let abc : T (A && B && C) = and_l (A && B && C) D t in
    let ab : T (A && B) = and_l (A && B) C abc in
    record {
      odd = eqb→eq (q % 2) 1 (and_l A B ab);
      short = ltb→lt q (2 ^ 53) (and_r A B ab);
      fine = leb→le (down e) (2 ^ 1074) (and_r (A && B) C abc);
      bounded = ltb→lt (q * up e) (2 ^ 1024 * down e) (and_r (A && B && C) D t);
    }
