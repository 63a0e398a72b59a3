-- The sheet of a set and of marks says these, and bytes that say them are that sheet: what is well formed is one sheet. Assumes nothing.
use Prim.Native.Nat.{ℕ, zero, suc, ◌+◌, ◌-◌, ◌^◌, ◌≤◌, ◌<◌}
use native.Mathlib.Omega.{arith}
use native.Mathlib.Nat.{add-zero}
use mathlib.Core.Path.{◌≡◌, refl, sym, ap, ap₂, ◌∙◌, subst}
use mathlib.Core.Bool.{Bool, true, false, cond}
use mathlib.Core.Logic.{◌↔◌}
use mathlib.Core.List.{List, [], ◌∷◌, ◌++◌, append-nil}
use lib.Bits.{bit_and, and_le_r, and_zero_l}
use lib.Dec.{ltb, leb, eqb}
use lib.ListN.{length, drop, get_or, replicate, length-append, length-replicate, length-drop, drop_of_length-le}
use lib.Seq.{drop-append_seam, drop-drop, get_or-drop}
use borrow.Author.Tests.{lt-ltb, le-ltb, le-leb, ltb-true, ltb-false, leb-true, eq-eqb, ne_eqb, eqb-true, eqb-false}
use Rattle.groups.specs.Groups.{groups}
use Rattle.groups.proofs.Numbers.{Bytes, read-there, written_read}
use Rattle.groups.proofs.Onward.{in_place, by_number}
use Rattle.sheets.specs.Sheet.{marked, entries_of, sheet_of}
use Rattle.sheets.specs.Said.{Said, fault, sheet, number, is_part, placed, entries, said_from}
use Rattle.sheets.proofs.Points.{marked-none, marked-zero, marked-suc, marked-le, marked-zeros, zeros-snoc}
use Rattle.sheets.proofs.Points.{entries_of-none, entries_of-zero, entries_of-mark, entries_of-zeros}

-- every point's marks are inside the set
abbrev pub Inside : ℕ → List ℕ → Type 0
Inside set ms = (i : ℕ) → bit_and (get_or ms i 0) set ≡ get_or ms i 0

-- ---- a sheet says what it was made from

module _ (s : List ℕ) (at v : ℕ) (tail : List ℕ) (there : drop at s ≡ groups v ++ tail) where
  past : drop (at + length (groups v)) s ≡ tail
  past = sym (drop-drop (length (groups v)) at s) ∙ ap (drop (length (groups v))) there ∙ drop-append_seam (groups v) tail

  number-says : (ok : ℕ → Bool) (rest : ℕ → ℕ → Said) → v < 2 ^ 64 → ok v ≡ true
      → number ok s at rest ≡ rest v (at + length (groups v))
  number-says ok rest h t =
      in_place (fault at) (fault at) ok s at rest v (at + length (groups v)) (read-there s at v tail h there) t

is_part-yes : (set m : ℕ) → (m ≡ 0 → ⊥) → bit_and m set ≡ m → is_part set m ≡ true
is_part-yes set m h e = simp (ne_eqb m 0 h, eq-eqb (bit_and m set) m e)

module _ (s : List ℕ) (set : ℕ) (low : set < 2 ^ 64) where
  mark-says : (m : ℕ) (ms : List ℕ) (gap at : ℕ) → (m ≡ 0 → ⊥) → bit_and m set ≡ m → gap + suc (length ms) < 2 ^ 64
      → drop at s ≡ groups gap ++ (groups m ++ entries_of 0 ms)
      → ((p : ℕ) → drop p s ≡ entries_of 0 ms → entries s set (marked ms) (length ms) p ≡ sheet set ms)
      → entries s set (suc (marked ms)) (gap + suc (length ms)) at ≡ sheet set (replicate gap 0 ++ (m ∷ ms))
  unfolding entries
  mark-says m ms gap at nz part h there ih =
      let points = gap + suc (length ms) in
      let left : points - suc gap ≡ length ms = omega arith in
      let small : m < 2 ^ 64 = omega (arith, and_le_r m set, part) in
      let second = past s at gap (groups m ++ entries_of 0 ms) there in
      let third = past s (at + length (groups gap)) m (entries_of 0 ms) second in
      number-says s at gap (groups m ++ entries_of 0 ms) there (λ skip. ltb skip points) _ (omega arith) (lt-ltb gap points (omega arith))
      ∙ number-says s (at + length (groups gap)) m (entries_of 0 ms) second (is_part set) _ small (is_part-yes set m nz part)
      ∙ ap (λ (n : ℕ). placed gap m (entries s set (marked ms) n (at + length (groups gap) + length (groups m)))) left
      ∙ ap (placed gap m) (ih (at + length (groups gap) + length (groups m)) third)

  point-says : (t : Bool) (m : ℕ) → eqb m 0 ≡ t → (ms : List ℕ) → bit_and m set ≡ m → (gap at : ℕ) → gap + suc (length ms) < 2 ^ 64
      → drop at s ≡ entries_of gap (m ∷ ms)
      → ((g p : ℕ) → g + length ms < 2 ^ 64 → drop p s ≡ entries_of g ms
      → entries s set (marked ms) (g + length ms) p ≡ sheet set (replicate g 0 ++ ms))
      → entries s set (marked (m ∷ ms)) (gap + suc (length ms)) at ≡ sheet set (replicate gap 0 ++ (m ∷ ms))
  point-says true m t ms part gap at h there ih =
      let z : m ≡ 0 = eqb-true m 0 t in
      let one : gap + suc (length ms) ≡ suc gap + length ms = omega arith in
      let next : drop at s ≡ entries_of (suc gap) ms = there ∙ ap (λ (x : ℕ). entries_of gap (x ∷ ms)) z ∙ entries_of-zero gap ms in
      rw (z, marked-zero ms, one, ← zeros-snoc gap ms) (ih (suc gap) at (omega arith) next)
  point-says false m t ms part gap at h there ih =
      let nz : m ≡ 0 → ⊥ = eqb-false m 0 t in
      let none : 0 + length ms ≡ length ms = omega arith in
      rw (marked-suc m ms nz)
      (mark-says m ms gap at nz part h (there ∙ entries_of-mark gap m ms nz) (λ p e. rw none at (ih 0 p (omega arith) e)))

  entries-say : (ms : List ℕ) → Inside set ms → (gap at : ℕ) → gap + length ms < 2 ^ 64 → drop at s ≡ entries_of gap ms
      → entries s set (marked ms) (gap + length ms) at ≡ sheet set (replicate gap 0 ++ ms)
  unfolding entries
  entries-say [] inside gap at h there =
      let end : length s ≤ at = omega (arith, sym (length-drop at s) ∙ ap length (there ∙ entries_of-none gap)) in
      rw (marked-none, add-zero) (simp (le-ltb at (length s) end) (ap (sheet set) (sym (append-nil (replicate gap 0)))))
  entries-say (m ∷ ms) inside gap at h there =
      point-says (eqb m 0) m refl ms (inside 0) gap at h there (λ g p. entries-say ms (λ i. inside (suc i)) g p)

-- the sheet of a set and of marks inside it says these, wherever it begins
pub said-written : (most top set : ℕ) (ms s : List ℕ) (at : ℕ)
    → set ≤ top → top < 2 ^ 64 → length ms ≤ most → most < 2 ^ 64 → Inside set ms
    → drop at s ≡ sheet_of set ms → said_from most top s at ≡ sheet set ms
unfolding said_from sheet_of
said-written most top set ms s at low bound few many inside there =
    let q = at + length (groups (length ms)) in
    let r = q + length (groups set) in
    let second = past s at (length ms) (groups set ++ (groups (marked ms) ++ entries_of 0 ms)) there in
    let third = past s q set (groups (marked ms) ++ entries_of 0 ms) second in
    let fourth = past s r (marked ms) (entries_of 0 ms) third in
    let none : 0 + length ms ≡ length ms = omega arith in
    let fewer : marked ms ≤ length ms = marked-le ms in
    number-says s at (length ms) (groups set ++ (groups (marked ms) ++ entries_of 0 ms)) there (λ n. leb n most) _ (omega arith)
    (le-leb (length ms) most few)
    ∙ number-says s q set (groups (marked ms) ++ entries_of 0 ms) second (λ t. leb t top) _ (omega arith) (le-leb set top low)
    ∙ number-says s r (marked ms) (entries_of 0 ms) third (λ k. leb k (length ms)) _ (omega arith) (le-leb (marked ms) (length ms) fewer)
    ∙ rw none at (entries-say s set (omega arith) ms inside 0 (r + length (groups (marked ms))) (omega arith) fourth)

-- ---- bytes that say something are its sheet

not-sheet : {A : Type 0} {p t : ℕ} {ms : List ℕ} → fault p ≡ sheet t ms → A
not-sheet {A} {p} {t} {ms} e = absurd (let z : ◌≡◌ {A = ℕ} 0 1 = cc in omega arith)

-- a number was read whose value is in place, and the rest says a sheet
pub record Took (ok : ℕ → Bool) (s : List ℕ) (at : ℕ) (rest : ℕ → ℕ → Said) (t : ℕ) (ms : List ℕ) : Type 0 where
  pub value : ℕ
  pub next : ℕ
  pub string : drop at s ≡ groups value ++ drop next s
  pub passed : ok value ≡ true
  pub then : rest value next ≡ sheet t ms

bytes-from : (s : List ℕ) (at : ℕ) → Bytes s → Bytes (drop at s)
bytes-from s at h i = rw (get_or-drop at s i 0) (h (at + i))

module _ (ok : ℕ → Bool) (s : List ℕ) (at : ℕ) (rest : ℕ → ℕ → Said) (t : ℕ) (ms : List ℕ) (bytes : Bytes s) where
  took : number ok s at rest ≡ sheet t ms → Took ok s at rest t ms
  took = by_number (fault at) (fault at) ok s at rest (λ r. r ≡ sheet t ms → Took ok s at rest t ms) (λ f. not-sheet f) (λ f. not-sheet f)
      (λ v next e o f. record {
        value = v;
        next = next;
        string = (written_read s at v next (bytes-from s at bytes) e).string;
        passed = o;
        then = f;
      })

pub is_part-means : (set m : ℕ) → is_part set m ≡ true → (m ≡ 0 → ⊥) × (bit_and m set ≡ m)
is_part-means set m e = by (eqb m 0) refl
  where
    by : (t : Bool) → eqb m 0 ≡ t → (m ≡ 0 → ⊥) × (bit_and m set ≡ m)
    by true z = absurd (let f : false ≡ true = sym (simp z) ∙ e in let o : ◌≡◌ {A = ℕ} 0 1 = cc in omega arith)
    by false z = (eqb-false m 0 z, eqb-true (bit_and m set) m (sym (simp z) ∙ e))

placed-means : (skip m : ℕ) (r : Said) (t : ℕ) (ms : List ℕ) → placed skip m r ≡ sheet t ms
    → (l : List ℕ) × (r ≡ sheet t l) × (replicate skip 0 ++ (m ∷ l) ≡ ms)
placed-means skip m (fault p) t ms e = not-sheet e
placed-means skip m (sheet u l) t ms e = (l, (let f : u ≡ t = cc in ap (λ (x : ℕ). sheet x l) f), cc)

-- what entries that are well formed say
pub record Holds (s : List ℕ) (set k left at t : ℕ) (ms : List ℕ) : Type 0 where
  pub set_is : t ≡ set
  pub points : length ms ≡ left
  pub count : marked ms ≡ k
  pub inside : Inside set ms
  pub string : drop at s ≡ entries_of 0 ms

inside-zeros : (set n : ℕ) (ms : List ℕ) → Inside set ms → Inside set (replicate n 0 ++ ms)
inside-zeros set zero ms h i = h i
inside-zeros set (suc n) ms h zero = and_zero_l set
inside-zeros set (suc n) ms h (suc i) = inside-zeros set n ms h i

inside-cons : (set m : ℕ) (ms : List ℕ) → bit_and m set ≡ m → Inside set ms → Inside set (m ∷ ms)
inside-cons set m ms e h zero = e
inside-cons set m ms e h (suc i) = h i

holds-end : (s : List ℕ) (set left at t : ℕ) (ms : List ℕ) → (b : Bool) → ltb at (length s) ≡ b
    → cond b (fault at) (sheet set (replicate left 0)) ≡ sheet t ms → Holds s set 0 left at t ms
holds-end s set left at t ms true b e = not-sheet e
holds-end s set left at t ms false b e =
    let is : replicate left 0 ++ [] ≡ ms = append-nil (replicate left 0) ∙ (let f : replicate left 0 ≡ ms = cc in f) in
    record {
      set_is = cc;
      points =
          ap length (sym is) ∙ length-append (replicate left 0) [] ∙ add-zero (length (replicate {A = ℕ} left 0)) ∙ length-replicate left 0;
      count = ap marked (sym is) ∙ marked-zeros left [] ∙ marked-none;
      inside = subst (Inside set) is (inside-zeros set left [] (λ i. and_zero_l set));
      string =
          drop_of_length-le s (ltb-false at (length s) b)
          ∙ sym (ap (entries_of 0) (sym is) ∙ entries_of-zeros left 0 [] ∙ entries_of-none (left + 0));
    }

holds_more : (s : List ℕ) (set k left at t skip m next : ℕ) (l ms : List ℕ) → skip < left → (m ≡ 0 → ⊥) → bit_and m set ≡ m
    → replicate skip 0 ++ (m ∷ l) ≡ ms → drop at s ≡ groups skip ++ (groups m ++ drop next s) → Holds s set k (left - suc skip) next t l
    → Holds s set (suc k) left at t ms
holds_more s set k left at t skip m next l ms h nz part is there r =
    let none : skip + 0 ≡ skip = omega arith in
    let p = r.points in
    record {
      set_is = r.set_is;
      points = ap length (sym is) ∙ simp (length-append, length-replicate) (omega arith);
      count = ap marked (sym is) ∙ marked-zeros skip (m ∷ l) ∙ marked-suc m l nz ∙ ap suc r.count;
      inside = subst (Inside set) is (inside-zeros set skip (m ∷ l) (inside-cons set m l part r.inside));
      string =
          there
          ∙ ap (λ (x : List ℕ). groups skip ++ (groups m ++ x)) r.string
          ∙ sym (ap (entries_of 0) (sym is) ∙ entries_of-zeros skip 0 (m ∷ l) ∙ ap (λ (n : ℕ). entries_of n (m ∷ l)) none
          ∙ entries_of-mark skip m l nz);
    }

pub entries-hold : (s : List ℕ) (set k left at t : ℕ) (ms : List ℕ) → Bytes s → entries s set k left at ≡ sheet t ms
    → Holds s set k left at t ms
unfolding entries
entries-hold s set zero left at t ms bytes e = holds-end s set left at t ms (ltb at (length s)) refl e
entries-hold s set (suc k) left at t ms bytes e =
    let a = took (λ skip. ltb skip left) s at _ t ms bytes e in
    let skip = a.value in
    let b = took (is_part set) s a.next _ t ms bytes a.then in
    let m = b.value in
    let d = placed-means skip m (entries s set k (left - suc skip) b.next) t ms b.then in
    let o = is_part-means set m b.passed in
    holds_more s set k left at t skip m b.next d.0 ms (ltb-true skip left a.passed) o.0 o.1 d.2
    (a.string ∙ ap (λ (x : List ℕ). groups skip ++ x) b.string)
    (entries-hold s set k (left - suc skip) b.next t d.0 bytes d.1)

-- the bytes from a place on are the sheet of the set and of the marks
pub record IsSheet (most top : ℕ) (s : List ℕ) (at set : ℕ) (ms : List ℕ) : Type 0 where
  pub low : set ≤ top
  pub few : length ms ≤ most
  pub inside : Inside set ms
  pub string : drop at s ≡ sheet_of set ms

-- bytes that are well formed are the one sheet of what they say
pub said-sound : (most top : ℕ) (s : List ℕ) (at set : ℕ) (ms : List ℕ) → Bytes s → said_from most top s at ≡ sheet set ms
    → IsSheet most top s at set ms
unfolding said_from sheet_of
said-sound most top s at set ms bytes e =
    let a = took (λ n. leb n most) s at _ set ms bytes e in
    let b = took (λ t. leb t top) s a.next _ set ms bytes a.then in
    let d = took (λ k. leb k a.value) s b.next _ set ms bytes b.then in
    let r = entries-hold s b.value d.value a.value d.next set ms bytes d.then in
    let same = r.set_is in
    let points = r.points in
    let few : a.value ≤ most = leb-true a.value most a.passed in
    let low : b.value ≤ top = leb-true b.value top b.passed in
    record {
      low = omega arith;
      few = omega arith;
      inside = subst (λ (t : ℕ). Inside t ms) (sym same) r.inside;
      string =
          a.string
          ∙ ap (λ (x : List ℕ). groups a.value ++ x) b.string
          ∙ ap (λ (x : List ℕ). groups a.value ++ (groups b.value ++ x)) d.string
          ∙ ap (λ (x : List ℕ). groups a.value ++ (groups b.value ++ (groups d.value ++ x))) r.string
          ∙ ap (λ (k : ℕ). groups a.value ++ (groups b.value ++ (groups k ++ entries_of 0 ms))) (sym r.count)
          ∙ ap₂ (λ (n t : ℕ). groups n ++ (groups t ++ (groups (marked ms) ++ entries_of 0 ms))) (sym points) (sym same);
    }

-- What is well formed, said without a reader: bytes say a set and marks exactly if they are the sheet of these, the set and the number of
-- points are in bounds, and every point's marks are inside the set.
pub well-formed : (most top : ℕ) → most < 2 ^ 64 → top < 2 ^ 64 → (s : List ℕ) → Bytes s → (set : ℕ) (ms : List ℕ)
    → (said_from most top s 0 ≡ sheet set ms) ↔ IsSheet most top s 0 set ms
well-formed most top a b s bytes set ms = (
  (λ e. said-sound most top s 0 set ms bytes e),
  (λ w. said-written most top set ms s 0 w.low b w.few a w.inside w.string),
)
