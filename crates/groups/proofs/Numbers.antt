-- What numbers in groups promise together: what is written is read back, whatever follows; what is read is the one string of its value;
-- no number's string is the beginning of another's. Sheets rest on `read-there`,
-- `written_read`, `read_one` and `read-two`; the others are for readers.
-- Assumes nothing.
use Prim.Native.Nat.{ℕ, zero, suc, ◌+◌, ◌*◌, ◌/◌, ◌%◌, ◌^◌, ◌≤◌, ◌<◌}
use native.Mathlib.Omega.{arith}
use mathlib.Core.Path.{◌≡◌, refl, sym, ap, ap₂, ◌∙◌, subst}
use mathlib.Core.Bool.{Bool, true, false}
use mathlib.Core.List.{List, [], ◌∷◌, ◌++◌, append-nil}
use lib.ListN.{length, drop, get_or}
use lib.Seq.{drop-append_seam, drop-cons, drop-drop, drop-length}
use lib.Dec.{ltb, eqb}
use borrow.Author.Tests.{lt-ltb, le-ltb, ltb-true, ltb-false, eqb-true, eqb-false}
use Rattle.groups.specs.Groups.{groups, Front, some, none, before, front, read_as, found, number_at, number_is, fault_is}
use Rattle.groups.proofs.Strings.{by-groups, groups-one, groups-more, before-some, before-zero, front-one, front-more}

-- every entry is a byte
abbrev pub Bytes : List ℕ → Type 0
Bytes s = (i : ℕ) → get_or s i 0 < 256

-- ---- at the front of some bytes

front-written : (rest : List ℕ) (x : ℕ) → front (groups x ++ rest) ≡ some x (length (groups x))
front-written rest = by-groups (λ (x : ℕ). front (groups x ++ rest) ≡ some x (length (groups x)))
    (λ x h. rw (groups-one x h) (front-one x rest h))
    (λ x h ih.
    let value : (128 + x % 128) % 128 + x / 128 * 128 ≡ x = omega arith in
    rw (groups-more x h)
    (front-more (128 + x % 128) (groups (x / 128) ++ rest) (omega arith)
    ∙ ap (before ((128 + x % 128) % 128)) ih
    ∙ before-some ((128 + x % 128) % 128) (x / 128) (length (groups (x / 128))) (omega arith)
    ∙ ap (λ (v : ℕ). some v (suc (length (groups (x / 128))))) value))

pub not_some : {A : Type 0} {v n : ℕ} → none ≡ some v n → A
not_some {A} {v} {n} e = absurd (let z : ◌≡◌ {A = ℕ} 0 1 = cc in omega arith)

module _ (b : ℕ) (bs : List ℕ) (small : b < 256) (v n : ℕ) (is : front (b ∷ bs) ≡ some v n) where
  string-one : b < 128 → b ∷ bs ≡ groups v ++ drop n (b ∷ bs)
  string-one h =
      let e : some b 1 ≡ some v n = sym (front-one b bs h) ∙ is in
      let value : b ≡ v = cc in
      let count : 1 ≡ n = cc in
      rw (← value, ← count) (rw (groups-one b h) refl)

  string-more : (r : Front) → front bs ≡ r → 128 ≤ b → ((w m : ℕ) → r ≡ some w m → bs ≡ groups w ++ drop m bs)
      → b ∷ bs ≡ groups v ++ drop n (b ∷ bs)
  string-more none e h ih = not_some (sym (front-more b bs h ∙ ap (before (b % 128)) e) ∙ is)
  string-more (some w m) e h ih = by (eqb w 0) refl
    where
      whole : before (b % 128) (some w m) ≡ some v n
      whole = sym (front-more b bs h ∙ ap (before (b % 128)) e) ∙ is

      by : (t : Bool) → eqb w 0 ≡ t → b ∷ bs ≡ groups v ++ drop n (b ∷ bs)
      by true z = not_some (sym (before-zero (b % 128) w m (eqb-true w 0 z)) ∙ whole)
      by false z =
          let nz : w ≡ 0 → ⊥ = eqb-false w 0 z in
          let g : some (b % 128 + w * 128) (suc m) ≡ some v n = sym (before-some (b % 128) w m nz) ∙ whole in
          let value : b % 128 + w * 128 ≡ v = cc in
          let count : suc m ≡ n = cc in
          rw (← value, ← count, groups-more (b % 128 + w * 128) (omega arith))
          (ap₂ ◌∷◌ (omega arith) (ih w m refl ∙ ap (λ (y : ℕ). groups y ++ drop m bs) (omega arith)))

string-by : (b : ℕ) (bs : List ℕ) (v n : ℕ) (t : Bool) → ltb b 128 ≡ t → b < 256 → front (b ∷ bs) ≡ some v n
    → ((w m : ℕ) → front bs ≡ some w m → bs ≡ groups w ++ drop m bs) → b ∷ bs ≡ groups v ++ drop n (b ∷ bs)
string-by b bs v n true t h e ih = string-one b bs h v n e (ltb-true b 128 t)
string-by b bs v n false t h e ih = string-more b bs h v n e (front bs) refl (ltb-false b 128 t) ih

front-string : (s : List ℕ) (v n : ℕ) → Bytes s → front s ≡ some v n → s ≡ groups v ++ drop n s
unfolding front
front-string [] v n h e = not_some e
front-string (b ∷ bs) v n h e = string-by b bs v n (ltb b 128) refl (h 0) e (λ w m. front-string bs w m (λ i. h (suc i)))

-- ---- at a place

pub read_some : (at v n : ℕ) → v < 2 ^ 64 → read_as at (some v n) ≡ number_is v (at + n)
read_some at v n h = simp (lt-ltb v (2 ^ 64) h)

pub read-over : (at v n : ℕ) → 2 ^ 64 ≤ v → read_as at (some v n) ≡ fault_is at
read-over at v n h = simp (le-ltb v (2 ^ 64) h)

-- What is written is read back, wherever it stands and whatever follows: the number, and the place just past it.
pub read-written : (x : ℕ) → x < 2 ^ 64 → (ahead rest : List ℕ)
    → number_at (ahead ++ (groups x ++ rest)) (length ahead) ≡ number_is x (length ahead + length (groups x))
unfolding number_at
read-written x h ahead rest =
    ap (λ (s : List ℕ). read_as (length ahead) (front s)) (drop-append_seam ahead (groups x ++ rest))
    ∙ ap (read_as (length ahead)) (front-written rest x)
    ∙ read_some (length ahead) x (length (groups x)) h

-- The same, told what the bytes are from the place on.
pub read-there : (s : List ℕ) (at x : ℕ) (rest : List ℕ) → x < 2 ^ 64 → drop at s ≡ groups x ++ rest
    → number_at s at ≡ number_is x (at + length (groups x))
unfolding number_at
read-there s at x rest h e =
    ap (λ (l : List ℕ). read_as at (front l)) e
    ∙ ap (read_as at) (front-written rest x)
    ∙ read_some at x (length (groups x)) h

-- A byte below 128 is a number by itself.
pub read_one : (s : List ℕ) (at : ℕ) → at < length s → get_or s at 0 < 128 → number_at s at ≡ number_is (get_or s at 0) (at + 1)
read_one s at h low =
    let b = get_or s at 0 in
    read-there s at b (drop (suc at) s) (omega arith) (drop-cons s at 0 h ∙ ap (λ (g : List ℕ). g ++ drop (suc at) s) (sym (groups-one b low)))
    ∙ ap (λ (g : List ℕ). number_is b (at + length g)) (groups-one b low)

-- A byte from 128 on and a second one below, which is not zero, are a number of two groups.
pub read-two : (s : List ℕ) (at : ℕ) → at + 1 < length s → 128 ≤ get_or s at 0 → get_or s at 0 < 256
    → (get_or s (at + 1) 0 ≡ 0 → ⊥) → get_or s (at + 1) 0 < 128
    → number_at s at ≡ number_is (get_or s at 0 % 128 + get_or s (at + 1) 0 * 128) (at + 2)
read-two s at h more byte nz low =
    let b = get_or s at 0 in
    let t = get_or s (at + 1) 0 in
    let x = b % 128 + t * 128 in
    let next : suc at ≡ at + 1 = omega arith in
    let first : 128 + x % 128 ≡ b = omega arith in
    let second : x / 128 ≡ t = omega arith in
    let string : groups x ≡ b ∷ t ∷ [] =
    groups-more x (omega arith) ∙ ap₂ (λ (u v : ℕ). u ∷ groups v) first second ∙ ap (λ (g : List ℕ). b ∷ g) (groups-one t low) in
    let there : drop at s ≡ b ∷ t ∷ drop (suc (at + 1)) s =
    drop-cons s at 0 (omega arith)
    ∙ ap (λ (l : List ℕ). b ∷ l) (ap (λ (j : ℕ). drop j s) next ∙ drop-cons s (at + 1) 0 h) in
    read-there s at x (drop (suc (at + 1)) s) (omega arith) (there ∙ ap (λ (g : List ℕ). g ++ drop (suc (at + 1)) s) (sym string))
    ∙ ap (λ (g : List ℕ). number_is x (at + length g)) string

-- The number v stands at the place `at`: it has at most 64 bits, its one string starts there, and `next` is just past it.
pub record Stands (s : List ℕ) (at v next : ℕ) : Type 0 where
  pub fits : v < 2 ^ 64
  pub past : next ≡ at + length (groups v)
  pub string : drop at s ≡ groups v ++ drop next s

pub not-number : {A : Type 0} {at v next : ℕ} → fault_is at ≡ number_is v next → A
not-number {A} {at} {v} {next} e = absurd (let z : ◌≡◌ {A = ℕ} 0 1 = cc in omega arith)

stands_by : (s : List ℕ) (at v next : ℕ) → Bytes (drop at s) → (r : Front) → front (drop at s) ≡ r → read_as at r ≡ number_is v next → Stands s at v next
stands_by s at v next h none f e = not-number e
stands_by s at v next h (some w n) f e = by (ltb w (2 ^ 64)) refl
  where
    by : (t : Bool) → ltb w (2 ^ 64) ≡ t → Stands s at v next
    by false t = not-number (sym (read-over at w n (ltb-false w (2 ^ 64) t)) ∙ e)
    by true t =
        let g : number_is w (at + n) ≡ number_is v next = sym (read_some at w n (ltb-true w (2 ^ 64) t)) ∙ e in
        let value : w ≡ v = ap (λ r. (found r).1) g in
        let place : at + n ≡ next = ap (λ r. (found r).2) g in
        let string : drop at s ≡ groups w ++ drop n (drop at s) = front-string (drop at s) w n h f in
        let again : some w n ≡ some w (length (groups w)) =
        sym f ∙ ap front string ∙ front-written (drop n (drop at s)) w in
        let count : n ≡ length (groups w) = cc in
        record {
          fits = subst (λ (y : ℕ). y < 2 ^ 64) value (ltb-true w (2 ^ 64) t);
          past = sym place ∙ ap (λ (m : ℕ). at + m) count ∙ ap (λ (y : ℕ). at + length (groups y)) value;
          string = string ∙ ap₂ (λ (y : ℕ) (r : List ℕ). groups y ++ r) value (drop-drop n at s ∙ ap (λ (j : ℕ). drop j s) place);
        }

-- Whatever is read is the one string of its value.
pub written_read : (s : List ℕ) (at v next : ℕ) → Bytes (drop at s) → number_at s at ≡ number_is v next → Stands s at v next
unfolding number_at
written_read s at v next h e = stands_by s at v next h (front (drop at s)) refl e

-- No number's string is the beginning of another's: where two strings begin alike, the numbers are one, and so is what follows.
pub no-beginning : (x y : ℕ) (r t : List ℕ) → groups x ++ r ≡ groups y ++ t → (x ≡ y) × (r ≡ t)
no-beginning x y r t e =
    let both : some x (length (groups x)) ≡ some y (length (groups y)) = sym (front-written r x) ∙ ap front e ∙ front-written t y in
    let same : x ≡ y = cc in (
      same,
      sym (drop-append_seam (groups x) r) ∙ ap (λ (l : List ℕ). drop (length (groups x)) l) e
          ∙ ap (λ (z : ℕ). drop (length (groups z)) (groups y ++ t)) same ∙ drop-append_seam (groups y) t,
    )

-- Each number has exactly one string: bytes that are read as v and nothing more are the groups of v.
pub one-string : (s : List ℕ) (v : ℕ) → Bytes s → number_at s 0 ≡ number_is v (length s) → s ≡ groups v
one-string s v h e =
    let p = written_read s 0 v (length s) h e in
    p.string ∙ ap (λ (l : List ℕ). groups v ++ l) (drop-length s) ∙ append-nil (groups v)

-- Every group is a byte.
pub groups-bytes : (x : ℕ) → Bytes (groups x)
groups-bytes = by-groups (λ (x : ℕ). Bytes (groups x))
    (λ x h. rw (groups-one x h) (bytes-cons x [] (omega arith) (λ i. omega arith)))
    (λ x h ih. rw (groups-more x h) (bytes-cons (128 + x % 128) (groups (x / 128)) (omega arith) ih))
  where
    bytes-cons : (b : ℕ) (bs : List ℕ) → b < 256 → Bytes bs → Bytes (b ∷ bs)
    bytes-cons b bs h t zero = h
    bytes-cons b bs h t (suc i) = t i
