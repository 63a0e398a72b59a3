-- How far the places and the numbers of a verdict go: a number takes at most ten bytes, and bytes say at most three numbers at the head and
-- two for each of 4,096 points before a fault. And how long a sheet is: at most 16,390 bytes. Assumes nothing.
use Prim.Native.Nat.{ℕ, zero, suc, ◌+◌, ◌-◌, ◌*◌, ◌%◌, ◌^◌, ◌≤◌, ◌<◌}
use native.Mathlib.Nat.{pow-suc}
use native.Mathlib.Omega.{arith}
use mathlib.Core.Path.{◌≡◌, refl, sym, ap, ◌∙◌}
use mathlib.Core.Bool.{Bool, true, false, not, ◌&&◌, cond}
use mathlib.Core.List.{List, [], ◌∷◌, ◌++◌}
use lib.Bits.{and_le_r}
use lib.Dec.{eqb, ltb, leb}
use lib.Ieee.{Float}
use lib.ListN.{length, drop, replicate, length-append}
use borrow.Author.Tests.{ltb-true, ltb-false, leb-true, eqb-true, eqb-false, not-true}
use Rattle.laws.specs.Bools.{every}
use Rattle.laws.specs.Refusals.{first_of}
use Rattle.laws.proofs.Refusals.{first-such, first_under}
use Rattle.laws.specs.Lists.{tabulate_from}
use Rattle.groups.specs.Groups.{groups, Front, some, none, before, front, read_as, number_at, number_is, found}
use Rattle.groups.proofs.Strings.{groups-most, before-zero, before-some, front-one, front-more}
use Rattle.groups.proofs.Numbers.{read_some, read-over, not_some, not-number}
use Rattle.groups.proofs.Onward.{by_number}
use Rattle.rules.specs.Terms.{Terms}
use Rattle.sets.specs.Sets.{largest}
use Rattle.rules.specs.Marking.{most, ahead, refusal, marks_at, cuts_of, lines_for, marks_of}
use Rattle.rules.proofs.Accepted.{was-accepted}
use Rattle.rules.proofs.Meaning.{marks-lt, length-marks}
use Rattle.sheets.specs.Sheet.{marked, entries_of, sheet_of}
use Rattle.sheets.specs.Said.{Said, fault, sheet, number, is_part, placed, entries, said_from, said}
use Rattle.sheets.specs.Answers.{Verdict, first_wrong, judged, check_of, series_sheet, write_of}
use Rattle.sheets.proofs.Points.{marked-le, entries_of-none, entries_of-zero, entries_of-mark}
use Rattle.sheets.proofs.Sheets.{is_part-means}
use Rattle.sheets.proofs.Judging.{check_done, check-refused, write_done, write-refused}

-- ---- a number takes at most ten bytes

-- a group with more to come, in front of a number of m bytes
more_bytes : (low w m v n k : ℕ) → before low (some w m) ≡ some v n → v < 128 ^ suc k
    → ((j : ℕ) → w < 128 ^ suc j → m ≤ suc j) → n ≤ suc k
more_bytes low w m v n k e h ih = by (eqb w 0) refl
  where
    longer : (k : ℕ) → (w ≡ 0 → ⊥) → low + w * 128 < 128 ^ suc k → suc m ≤ suc k
    longer zero nz h = absurd (nz (omega arith))
    longer (suc j) nz h = let p = pow-suc 128 (suc j) in let l = ih j (omega arith) in omega arith

    by : (t : Bool) → eqb w 0 ≡ t → n ≤ suc k
    by true z = not_some (sym (before-zero low w m (eqb-true w 0 z)) ∙ e)
    by false z =
        let nz = eqb-false w 0 z in
        let both : some (low + w * 128) (suc m) ≡ some v n = sym (before-some low w m nz) ∙ e in
        let value : low + w * 128 ≡ v = cc in
        let count : suc m ≡ n = cc in
        let l = longer k nz (omega arith) in
        omega arith

front_by : (b : ℕ) (bs : List ℕ) (k v n : ℕ) (t : Bool) → ltb b 128 ≡ t → front (b ∷ bs) ≡ some v n → v < 128 ^ suc k
    → ((j w m : ℕ) → front bs ≡ some w m → w < 128 ^ suc j → m ≤ suc j) → n ≤ suc k
front_by b bs k v n true t e h ih =
    let one : some b 1 ≡ some v n = sym (front-one b bs (ltb-true b 128 t)) ∙ e in
    let count : 1 ≡ n = cc in
    omega arith
front_by b bs k v n false t e h ih = by (front bs) refl
  where
    more : (r : Front) → front bs ≡ r → before (b % 128) r ≡ some v n
    more r f = ap (before (b % 128)) (sym f) ∙ sym (front-more b bs (ltb-false b 128 t)) ∙ e

    by : (r : Front) → front bs ≡ r → n ≤ suc k
    by none f = not_some (more none f)
    by (some w m) f = more_bytes (b % 128) w m v n k (more (some w m) f) h (λ j. ih j w m f)

front_bytes : (s : List ℕ) (k v n : ℕ) → front s ≡ some v n → v < 128 ^ suc k → n ≤ suc k
unfolding front
front_bytes [] k v n e h = not_some e
front_bytes (b ∷ bs) k v n e h = front_by b bs k v n (ltb b 128) refl e h (λ j w m. front_bytes bs j w m)

-- a number that is read has at most 64 bits, and takes no more bytes than its size asks for
number-bytes : (s : List ℕ) (at v next k : ℕ) → number_at s at ≡ number_is v next → (v < 2 ^ 64) × (v < 128 ^ suc k → next ≤ at + suc k)
unfolding number_at
number-bytes s at v next k = by (front (drop at s)) refl
  where
    by : (r : Front) → front (drop at s) ≡ r → read_as at r ≡ number_is v next → (v < 2 ^ 64) × (v < 128 ^ suc k → next ≤ at + suc k)
    by none f e = not-number e
    by (some w n) f e = small (ltb w (2 ^ 64)) refl
      where
        small : (t : Bool) → ltb w (2 ^ 64) ≡ t → (v < 2 ^ 64) × (v < 128 ^ suc k → next ≤ at + suc k)
        small false t = not-number (sym (read-over at w n (ltb-false w (2 ^ 64) t)) ∙ e)
        small true t =
            let low = ltb-true w (2 ^ 64) t in
            let g : number_is w (at + n) ≡ number_is v next = sym (read_some at w n low) ∙ e in
            let value : w ≡ v = ap (λ r. (found r).1) g in
            let place : at + n ≡ next = ap (λ r. (found r).2) g in
            (omega arith, λ h. let few : n ≤ suc k = front_bytes (drop at s) k w n f (omega arith) in omega arith)

number-ends : (s : List ℕ) (at v next : ℕ) → number_at s at ≡ number_is v next → next ≤ at + 10
number-ends s at v next e = let b = number-bytes s at v next 9 e in b.1 (omega (arith, b.0))

two_bytes : (x : ℕ) → x < 16384 → length (groups x) ≤ 2
two_bytes x h = groups-most x 1 (omega arith)

-- ---- what bytes say: a fault lies at q or before, and the marks are at most `top`

data Small (top : ℕ) : List ℕ → Type 0 where
  nil : Small top []
  cons : {m : ℕ} {ms : List ℕ} → m ≤ top → Small top ms → Small top (m ∷ ms)

small-zeros : (top n : ℕ) {ms : List ℕ} → Small top ms → Small top (replicate n 0 ++ ms)
small-zeros top zero h = h
small-zeros top (suc n) h = cons {m = 0} (omega arith) (small-zeros top n h)

zeros-small : (top n : ℕ) → Small top (replicate n 0)
zeros-small top zero = nil
zeros-small top (suc n) = cons {m = 0} (omega arith) (zeros-small top n)

abbrev Within : ℕ → ℕ → Said → Type 0
Within q top (fault p) = p ≤ q
Within q top (sheet set ms) = Small top ms

later : (a b top : ℕ) (r : Said) → a ≤ b → Within a top r → Within b top r
later a b top (fault p) h w = omega arith
later a b top (sheet set ms) h w = w

placed-within : (q top skip m : ℕ) (r : Said) → m ≤ top → Within q top r → Within q top (placed skip m r)
placed-within q top skip m (fault p) h w = w
placed-within q top skip m (sheet set ms) h w = small-zeros top skip (cons h w)

number-within : (q top : ℕ) (ok : ℕ → Bool) (s : List ℕ) (at : ℕ) (rest : ℕ → ℕ → Said) → at ≤ q
    → ((v next : ℕ) → ok v ≡ true → next ≤ at + 10 → Within q top (rest v next)) → Within q top (number ok s at rest)
number-within q top ok s at rest h f =
    by_number (fault at) (fault at) ok s at rest (Within q top) h h (λ v next e o. f v next o (number-ends s at v next e))

part_low : (set m : ℕ) → is_part set m ≡ true → m ≤ set
part_low set m e = let inside = (is_part-means set m e).1 in omega (arith, and_le_r m set)

entries-within : (s : List ℕ) (top set : ℕ) → set ≤ top → (k left at : ℕ) → Within (at + 20 * k) top (entries s set k left at)
unfolding entries
entries-within s top set low zero left at = by (ltb at (length s))
  where
    by : (t : Bool) → Within (at + 20 * 0) top (cond t (fault at) (sheet set (replicate left 0)))
    by true = omega arith
    by false = zeros-small top left
entries-within s top set low (suc k) left at =
    let q = at + 20 * suc k in
    number-within q top (λ skip. ltb skip left) s at _ (omega arith) (λ skip p in_place a.
    number-within q top (is_part set) s p _ (omega arith) (λ m n part b.
    let inside = part_low set m part in
    placed-within q top skip m (entries s set k (left - suc skip) n) (omega arith)
    (later (n + 20 * k) q top (entries s set k (left - suc skip) n) (omega arith) (entries-within s top set low k (left - suc skip) n))))

said-within : (most top : ℕ) (s : List ℕ) (at : ℕ) → Within (at + 30 + 20 * most) top (said_from most top s at)
unfolding said_from
said-within most top s at =
    let q = at + 30 + 20 * most in
    number-within q top (λ n. leb n most) s at _ (omega arith) (λ n a few x.
    number-within q top (λ set. leb set top) s a _ (omega arith) (λ set b low y.
    number-within q top (λ k. leb k n) s b _ (omega arith) (λ k c fewer z.
    let points = leb-true n most few in
    let points-marked = leb-true k n fewer in
    later (c + 20 * k) q top (entries s set k n c) (omega arith) (entries-within s top set (leb-true set top low) k n c))))

-- ---- the verdicts

-- Every verdict: a number alone, a form fault with its place, or wrong marks with the position and both marks.
pub data Bounded : Verdict → Type 0 where
  alone : {n : ℕ} → n ≤ 255 → (n ≡ 11 → ⊥) → Bounded (n, 0, 0, 0)
  form : {p : ℕ} → p ≤ 81950 → Bounded (9, p, 0, 0)
  wrong : {i right stated : ℕ} → i < 4096 → right ≤ 511 → stated ≤ 511 → Bounded (11, i, right, stated)

wrong-bounded : (i : ℕ) {right ms : List ℕ} → i + length right ≤ 4096 → Small 511 right → Small 511 ms → Bounded (first_wrong i right ms)
unfolding first_wrong
wrong-bounded i h nil b = alone {n = 0} (omega arith) (λ e. omega arith)
wrong-bounded i h (cons x a) nil = alone {n = 0} (omega arith) (λ e. omega arith)
wrong-bounded i h (cons {m = r} {ms = right} x a) (cons {m} {ms} y b) = by (eqb r m) (wrong-bounded (suc i) (omega arith) a b)
  where
    by : (t : Bool) → Bounded (first_wrong (suc i) right ms) → Bounded (cond t (first_wrong (suc i) right ms) (11, i, r, m))
    by true w = w
    by false w = wrong {i = i} (omega arith) x y

judged-bounded : (set : ℕ) (right : List ℕ) (r : Said) → length right ≤ 4096 → Small 511 right → Within 81950 511 r
    → Bounded (judged set right r)
unfolding first_of
judged-bounded set right (fault p) few small w = form w
judged-bounded set right (sheet t ms) few small w = by (not (eqb (length ms) (length right) && eqb t set))
  where
    by : (b : Bool) → Bounded (cond b (10, 0, 0, 0) (first_wrong 0 right ms))
    by true = alone {n = 10} (omega arith) (λ e. omega arith)
    by false = wrong-bounded 0 (omega arith) small w

small-table : (top : ℕ) (f : ℕ → ℕ) → ((i : ℕ) → f i ≤ top) → (i n : ℕ) → Small top (tabulate_from f i n)
unfolding tabulate_from
small-table top f h i zero = nil
small-table top f h i (suc n) = cons (h i) (small-table top f h (suc i) n)

module _ (terms : Terms) (set : ℕ) (values : List Float) where
  low : refusal terms set values ≤ 255
  unfolding ahead every
  low = first_under 255 (ahead terms set values) refl

  other : refusal terms set values ≡ 11 → ⊥
  unfolding ahead every
  other = eqb-false _ 11 (not-true (eqb (refusal terms set values) 11) (first-such (λ n. not (eqb n 11)) (ahead terms set values) refl refl))

  marks-small : Small 511 (marks_of terms set values)
  unfolding marks_of
  marks-small =
      let cut = cuts_of terms in
      let l = lines_for terms in
      small-table 511 (marks_at cut l set values) (λ i. let h = marks-lt cut l set values i in omega arith) 0 (length values)

  marks-few : refusal terms set values ≡ 0 → length (marks_of terms set values) ≤ 4096
  marks-few e =
      let few = (was-accepted terms set values e).few in
      let same = length-marks terms set values in
      omega arith

  pub check-bounded : (s : List ℕ) → Bounded (check_of terms set values s)
  check-bounded s = by (eqb (refusal terms set values) 0) refl
    where
      by : (t : Bool) → eqb (refusal terms set values) 0 ≡ t → Bounded (check_of terms set values s)
      by true e =
          rw (sym (check_done terms set values (eqb-true (refusal terms set values) 0 e) s))
          (judged-bounded set (marks_of terms set values) (said s) (marks-few (eqb-true (refusal terms set values) 0 e)) marks-small
          (said-within most largest s 0))
      by false e = rw (sym (check-refused terms set values (eqb-false (refusal terms set values) 0 e) s)) (alone low other)

-- ---- a sheet's length: here each number takes at most two bytes

entries-long : (skip : ℕ) {ms : List ℕ} → Small 511 ms → skip + length ms < 16384 → length (entries_of skip ms) ≤ 4 * length ms
entries-long skip nil h = rw (entries_of-none skip) (omega arith)
entries-long skip (cons {m} {ms} x a) h = by (eqb m 0) refl (entries-long (suc skip) a (omega arith)) (entries-long 0 a (omega arith))
  where
    by : (t : Bool) → eqb m 0 ≡ t → length (entries_of (suc skip) ms) ≤ 4 * length ms → length (entries_of 0 ms) ≤ 4 * length ms
        → length (entries_of skip (m ∷ ms)) ≤ 4 * suc (length ms)
    by true t skipped put = let z : m ≡ 0 = eqb-true m 0 t in rw (z, entries_of-zero skip ms) (omega arith)
    by false t skipped put =
        rw (entries_of-mark skip m ms (eqb-false m 0 t))
        (omega (
          arith,
          length-append (groups skip) (groups m ++ entries_of 0 ms),
          length-append (groups m) (entries_of 0 ms),
          two_bytes skip (omega arith),
          two_bytes m (omega arith),
        ))

sheet-long : (set : ℕ) (ms : List ℕ) → set ≤ 511 → length ms ≤ 4096 → Small 511 ms → length (sheet_of set ms) ≤ 16390
unfolding sheet_of
sheet-long set ms low few small =
    let fewer = marked-le ms in
    let tail = groups (marked ms) ++ entries_of 0 ms in
    omega (
      arith,
      length-append (groups (length ms)) (groups set ++ tail),
      length-append (groups set) tail,
      length-append (groups (marked ms)) (entries_of 0 ms),
      two_bytes (length ms) (omega arith),
      two_bytes set (omega arith),
      two_bytes (marked ms) (omega arith),
      entries-long 0 small (omega arith),
    )

-- what the writer answers: a number alone, or the length of a sheet
pub data Short : ℕ × ℕ → Type 0 where
  number-only : {n : ℕ} → n ≤ 255 → Short (n, 0)
  bytes : {n : ℕ} → n ≤ 16390 → Short (0, n)

pub write-short : (terms : Terms) (set : ℕ) (values : List Float) (room : ℕ) → Short (write_of terms set values room)
unfolding series_sheet
write-short terms set values room = by (eqb (refusal terms set values) 0) refl
  where
    whole : List ℕ
    whole = series_sheet terms set values

    held : length whole ≤ 16390 → (t : Bool) → Short (cond t (0, length whole) (6, 0))
    held h true = bytes h
    held h false = number-only {n = 6} (omega arith)

    by : (t : Bool) → eqb (refusal terms set values) 0 ≡ t → Short (write_of terms set values room)
    by true e =
        let none = eqb-true (refusal terms set values) 0 e in
        rw (sym (write_done terms set values none room))
        (held (sheet-long set (marks_of terms set values) (was-accepted terms set values none).small
        (marks-few terms set values none) (marks-small terms set values)) (leb (length whole) room))
    by false e = rw (sym (write-refused terms set values (eqb-false (refusal terms set values) 0 e) room)) (number-only (low terms set values))
