-- Bytes read as values, and marks written as bytes. Assumes nothing.
use mathlib.Core.Path.{◌≡◌, refl, ap, ◌∙◌}
use mathlib.Core.List.{List, [], ◌∷◌, ◌++◌}
use Prim.Native.Nat.{ℕ, zero, suc, ◌+◌, ◌*◌, ◌/◌, ◌%◌, ◌≤◌, ◌<◌}
use native.Mathlib.Nat.{le_of_suc-le-suc}
use native.Mathlib.Omega.{arith}
use lib.ListN.{length, take, drop, get_or, set, length-drop}
use Rattle.std.specs.Int.{w64, from_le_bytes}
use Rattle.std.specs.Simd.{first_chunks}
use Rattle.std.proofs.lemmas.List.{drop-drop}
use Rattle.laws.proofs.Lists.{length-tabulate}
use Rattle.twin.specs.Bytes.{word_of, float_at, floats_of, bytes_of}

-- ---- eight bytes

-- eight bytes at the front, as the library reads them
pub little : (ds : List ℕ) → 8 ≤ length ds → from_le_bytes w64 (take 8 ds) ≡ word_of (take 8 ds)
unfolding word_of
little (a ∷ b ∷ c ∷ d ∷ e ∷ f ∷ g ∷ h ∷ ds) l = omega arith
little (a ∷ b ∷ c ∷ d ∷ e ∷ f ∷ g ∷ []) l = absurd (omega arith)
little (a ∷ b ∷ c ∷ d ∷ e ∷ f ∷ []) l = absurd (omega arith)
little (a ∷ b ∷ c ∷ d ∷ e ∷ []) l = absurd (omega arith)
little (a ∷ b ∷ c ∷ d ∷ []) l = absurd (omega arith)
little (a ∷ b ∷ c ∷ []) l = absurd (omega arith)
little (a ∷ b ∷ []) l = absurd (omega arith)
little (a ∷ []) l = absurd (omega arith)
little [] l = absurd (omega arith)

-- the chunk with the number i
chunk : (k : ℕ) (bs : List ℕ) (i : ℕ) → i < k → get_or (first_chunks 8 k bs) i [] ≡ take 8 (drop (8 * i) bs)
chunk zero bs i h = absurd (omega arith)
chunk (suc k) bs zero h = refl
chunk (suc k) bs (suc i) h =
    let on : 8 + 8 * i ≡ 8 * suc i = omega arith in
    chunk k (drop 8 bs) i (le_of_suc-le-suc h) ∙ ap (take 8) (drop-drop (8 * i) 8 bs ∙ ap (λ (n : ℕ). drop n bs) on)

-- and the number that it means
pub chunk_word : (bs : List ℕ) (i : ℕ) → i < length bs / 8
    → from_le_bytes w64 (get_or (first_chunks 8 (length bs / 8) bs) i []) ≡ word_of (take 8 (drop (8 * i) bs))
chunk_word bs i h =
    ap (from_le_bytes w64) (chunk (length bs / 8) bs i h) ∙ little (drop (8 * i) bs) (omega (arith, length-drop (8 * i) bs))

-- ---- values

pub length-floats : (bs : List ℕ) → length (floats_of bs) ≡ length bs / 8
unfolding floats_of
length-floats bs = length-tabulate (float_at bs) (length bs / 8)

-- ---- marks

pub length-bytes : (ms : List ℕ) → length (bytes_of ms) ≡ 2 * length ms
unfolding bytes_of
length-bytes [] = refl
length-bytes (m ∷ ms) = omega (arith, length-bytes ms)

pub low_byte : (ms : List ℕ) (i : ℕ) → i < length ms → get_or (bytes_of ms) (2 * i) 0 ≡ get_or ms i 0 % 256
unfolding bytes_of
low_byte [] i h = absurd (omega arith)
low_byte (m ∷ ms) zero h = refl
low_byte (m ∷ ms) (suc i) h =
    let e : 2 * suc i ≡ suc (suc (2 * i)) = omega arith in
    ap (λ (k : ℕ). get_or (m % 256 ∷ m / 256 ∷ bytes_of ms) k 0) e ∙ low_byte ms i (le_of_suc-le-suc h)

pub high_byte : (ms : List ℕ) (i : ℕ) → i < length ms → get_or (bytes_of ms) (2 * i + 1) 0 ≡ get_or ms i 0 / 256
unfolding bytes_of
high_byte [] i h = absurd (omega arith)
high_byte (m ∷ ms) zero h = refl
high_byte (m ∷ ms) (suc i) h =
    let e : 2 * suc i + 1 ≡ suc (suc (2 * i + 1)) = omega arith in
    ap (λ (k : ℕ). get_or (m % 256 ∷ m / 256 ∷ bytes_of ms) k 0) e ∙ high_byte ms i (le_of_suc-le-suc h)

-- two bytes in the place of two are two that are set
pub two_set : (out : List ℕ) (i a b : ℕ) → i + 2 ≤ length out
    → take i out ++ ((a ∷ b ∷ []) ++ drop 2 (drop i out)) ≡ set (set out i a) (suc i) b
two_set [] i a b h = absurd (omega arith)
two_set (x ∷ []) i a b h = absurd (omega arith)
two_set (x ∷ y ∷ out) zero a b h = refl
two_set (x ∷ y ∷ out) (suc i) a b h = ap (λ (l : List ℕ). x ∷ l) (two_set (y ∷ out) i a b (omega (arith, h)))
