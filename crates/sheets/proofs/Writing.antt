-- The turns of the writer's loops, which measure the entries and write them, and the sheet put together. Assumes nothing.
use Prim.Native.Nat.{ℕ, suc, ◌+◌, ◌*◌, ◌≤◌, ◌<◌}
use native.Mathlib.Omega.{arith}
use mathlib.Core.Path.{◌≡◌, refl, sym, ap, ap₂, ◌∙◌}
use mathlib.Core.List.{List, [], ◌∷◌, ◌++◌, append_assoc}
use lib.ListN.{length, drop, get_or, length-append, length-drop, drop_of_length-le}
use lib.Seq.{drop-cons, drop-drop, drop-append_seam}
use Rattle.laws.specs.Front.{at_front}
use Rattle.laws.proofs.Filling.{Filling, filling-starts, filling-ends}
use Rattle.laws.proofs.Lending.{lent, regained, lent-room, lent-fills}
use Rattle.groups.specs.Groups.{groups}
use Rattle.sheets.specs.Sheet.{marked, entries_of, sheet_of}
use Rattle.sheets.specs.Steps.{Measured}
use Rattle.sheets.proofs.Points.{marked-none, marked-zero, marked-suc, entries_of-none, entries_of-zero, entries_of-mark}

-- ---- the next point

module _ (ms : List ℕ) (i : ℕ) (h : i < length ms) where
  next-is : drop i ms ≡ get_or ms i 0 ∷ drop (i + 1) ms
  next-is =
      let one : suc i ≡ i + 1 = omega arith in
      drop-cons ms i 0 h ∙ ap (λ (k : ℕ). get_or ms i 0 ∷ drop k ms) one

  module _ (z : get_or ms i 0 ≡ 0) where
    marked-skip : marked (drop i ms) ≡ marked (drop (i + 1) ms)
    marked-skip = ap marked (next-is ∙ ap (λ (m : ℕ). m ∷ drop (i + 1) ms) z) ∙ marked-zero (drop (i + 1) ms)

    entries-skip : (skip : ℕ) → entries_of skip (drop i ms) ≡ entries_of (skip + 1) (drop (i + 1) ms)
    entries-skip skip =
        let one : suc skip ≡ skip + 1 = omega arith in
        ap (entries_of skip) (next-is ∙ ap (λ (m : ℕ). m ∷ drop (i + 1) ms) z)
        ∙ entries_of-zero skip (drop (i + 1) ms)
        ∙ ap (λ (k : ℕ). entries_of k (drop (i + 1) ms)) one

  module _ (nz : get_or ms i 0 ≡ 0 → ⊥) where
    marked-put : marked (drop i ms) ≡ suc (marked (drop (i + 1) ms))
    marked-put = ap marked next-is ∙ marked-suc (get_or ms i 0) (drop (i + 1) ms) nz

    entries-put : (skip : ℕ) → entries_of skip (drop i ms) ≡ (groups skip ++ groups (get_or ms i 0)) ++ entries_of 0 (drop (i + 1) ms)
    entries-put skip =
        ap (entries_of skip) next-is
        ∙ entries_of-mark skip (get_or ms i 0) (drop (i + 1) ms) nz
        ∙ sym (append_assoc (groups skip) (groups (get_or ms i 0)) (entries_of 0 (drop (i + 1) ms)))

module _ (ms : List ℕ) (i : ℕ) (end : length ms ≤ i) where
  marked-end : marked (drop i ms) ≡ 0
  marked-end = ap marked (drop_of_length-le ms end) ∙ marked-none

  entries-end : (skip : ℕ) → entries_of skip (drop i ms) ≡ []
  entries-end skip = ap (entries_of skip) (drop_of_length-le ms end) ∙ entries_of-none skip

-- ---- measuring

pub record Measures (ms : List ℕ) (i skip k n : ℕ) : Type 0 where
  pub points : i ≤ length ms
  pub skipped : skip ≤ i
  pub few : k ≤ i
  pub short : n ≤ 20 * i
  pub count : k + marked (drop i ms) ≡ marked ms
  pub bytes : n + length (entries_of skip (drop i ms)) ≡ length (entries_of 0 ms)

pub measures-start : (ms : List ℕ) → Measures ms 0 0 0 0
measures-start ms = record {
  points = omega arith;
  skipped = omega arith;
  few = omega arith;
  short = omega arith;
  count = omega arith;
  bytes = omega arith;
}

module _ (ms : List ℕ) (i skip k n : ℕ) (p : Measures ms i skip k n) where
  module _ (h : i < length ms) where
    pub measures-skip : get_or ms i 0 ≡ 0 → Measures ms (i + 1) (skip + 1) k n
    measures-skip z = record {
      points = omega arith;
      skipped = omega (arith, p.skipped);
      few = omega (arith, p.few);
      short = omega (arith, p.short);
      count = omega (arith, p.count, marked-skip ms i h z);
      bytes = omega (arith, p.bytes, ap length (entries-skip ms i h z skip));
    }

    pub measures-put : (get_or ms i 0 ≡ 0 → ⊥) → (x y : ℕ) → (x ≡ length (groups skip)) × (x ≤ 10)
        → (y ≡ length (groups (get_or ms i 0))) × (y ≤ 10)
        → Measures ms (i + 1) 0 (k + 1) (n + x + y)
    measures-put nz x y u v =
        let long : length (entries_of skip (drop i ms))
        ≡ length (groups skip) + length (groups (get_or ms i 0)) + length (entries_of 0 (drop (i + 1) ms)) =
        ap length (entries-put ms i h nz skip)
        ∙ length-append (groups skip ++ groups (get_or ms i 0)) (entries_of 0 (drop (i + 1) ms))
        ∙ ap (λ (l : ℕ). l + length (entries_of 0 (drop (i + 1) ms))) (length-append (groups skip) (groups (get_or ms i 0))) in
        record {
          points = omega arith;
          skipped = omega arith;
          few = omega (arith, p.few);
          short = omega (arith, p.short, u.1, v.1);
          count = omega (arith, p.count, marked-put ms i h nz);
          bytes = omega (arith, p.bytes, u.0, v.0);
        }

  pub measures-end : length ms ≤ i → Measured ms k n
  measures-end h = record {
    points = omega (arith, p.count, marked-end ms i h);
    bytes = omega (arith, p.bytes, ap length (entries-end ms i h skip));
    few = omega (arith, p.few, p.points);
    short = omega (arith, p.short, p.points);
  }

-- ---- writing the entries

-- the entries of the first i points stand at the front
pub record Writes (ms old out : List ℕ) (i skip at : ℕ) : Type 0 where
  pub points : i ≤ length ms
  pub skipped : skip ≤ i
  pub filling : Filling (entries_of 0 ms) old out at
  pub left : drop at (entries_of 0 ms) ≡ entries_of skip (drop i ms)

pub writes_start : (ms old : List ℕ) → length (entries_of 0 ms) ≤ length old → Writes ms old old 0 0 0
writes_start ms old room = record {
  points = omega arith;
  skipped = omega arith;
  filling = filling-starts (entries_of 0 ms) old room;
  left = refl;
}

module _ (ms old out : List ℕ) (i skip at : ℕ) (w : Writes ms old out i skip at) where
  module _ (h : i < length ms) where
    pub writes-skip : get_or ms i 0 ≡ 0 → Writes ms old out (i + 1) (skip + 1) at
    writes-skip z = record {
      points = omega arith;
      skipped = omega (arith, w.skipped);
      filling = w.filling;
      left = w.left ∙ entries-skip ms i h z skip;
    }

    module _ (nz : get_or ms i 0 ≡ 0 → ⊥) where
      entry : List ℕ
      entry = groups skip ++ groups (get_or ms i 0)

      rest : List ℕ
      rest = entries_of 0 (drop (i + 1) ms)

      next : drop at (entries_of 0 ms) ≡ entry ++ rest
      unfolding entry rest
      next = w.left ∙ entries-put ms i h nz skip

      pub writes-room : length (groups skip ++ groups (get_or ms i 0)) ≤ length (lent out at)
      unfolding entry
      writes-room = lent-room (entries_of 0 ms) old out at w.filling entry rest next

      pub writes-on : (part : List ℕ) (n : ℕ) → part ≡ at_front (groups skip ++ groups (get_or ms i 0)) (lent out at)
          → n ≡ length (groups skip ++ groups (get_or ms i 0)) → Writes ms old (regained out at part) (i + 1) 0 (at + n)
      unfolding entry rest
      writes-on part n e count = record {
        points = omega arith;
        skipped = omega arith;
        filling = lent-fills (entries_of 0 ms) old out at w.filling entry rest next part n e count;
        left =
            sym (drop-drop n at (entries_of 0 ms))
            ∙ ap₂ drop count next
            ∙ drop-append_seam entry rest;
      }

  module _ (h : length ms ≤ i) where
    pub writes-count : at ≡ length (entries_of 0 ms)
    writes-count =
        omega (arith, sym (length-drop at (entries_of 0 ms)) ∙ ap length (w.left ∙ entries-end ms i h skip), w.filling.within)

    pub writes_end : out ≡ at_front (entries_of 0 ms) old
    writes_end = filling-ends (entries_of 0 ms) old out at w.filling (omega (arith, writes-count))

-- ---- the sheet

abbrev pub head_of : ℕ → ℕ → ℕ → List ℕ
head_of points set k = groups points ++ (groups set ++ groups k)

module _ (set : ℕ) (ms : List ℕ) (k n : ℕ) (m : Measured ms k n) where
  pub sheet-parts : head_of (length ms) set k ++ entries_of 0 ms ≡ sheet_of set ms
  unfolding sheet_of
  sheet-parts =
      ap (λ (j : ℕ). head_of (length ms) set j ++ entries_of 0 ms) m.points
      ∙ append_assoc (groups (length ms)) (groups set ++ groups (marked ms)) (entries_of 0 ms)
      ∙ ap (λ (l : List ℕ). groups (length ms) ++ l) (append_assoc (groups set) (groups (marked ms)) (entries_of 0 ms))

  pub sheet-length : (a b c : ℕ) → a ≡ length (groups (length ms)) → b ≡ length (groups set) → c ≡ length (groups k)
      → a + b + c + n ≡ length (sheet_of set ms)
  sheet-length a b c x y z =
      omega (
        arith,
        sym (ap length sheet-parts) ∙ length-append (head_of (length ms) set k) (entries_of 0 ms),
        length-append (groups (length ms)) (groups set ++ groups k),
        length-append (groups set) (groups k),
        m.bytes,
      )

  module _ (old : List ℕ) (room : length (sheet_of set ms) ≤ length old) where
    pub parts-fit : length (head_of (length ms) set k ++ entries_of 0 ms) ≤ length old
    parts-fit = rw sheet-parts room

    pub head-fits : length (head_of (length ms) set k) ≤ length old
    head-fits = omega (arith, parts-fit, length-append (head_of (length ms) set k) (entries_of 0 ms))
