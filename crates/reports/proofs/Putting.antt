-- Bytes put from a place of a room on, piece after piece, and what the whole comes to where it is only counted and where it is written.
-- Assumes nothing.
use mathlib.Core.Path.{◌≡◌, refl, sym, ap, ap₂, ◌∙◌}
use mathlib.Core.Bool.{Bool, true, false, cond}
use mathlib.Core.List.{List, [], ◌∷◌, ◌++◌}
use Prim.Native.Nat.{ℕ, suc, ◌+◌, ◌≤◌, ◌<◌}
use native.Mathlib.Nat.{zero-add}
use native.Mathlib.Numerals.{add-one}
use native.Mathlib.Omega.{arith}
use borrow.Author.Tests.{lt-ltb, le-ltb, ltb-true}
use lib.Dec.{ltb}
use lib.ListN.{length, drop, set, length-set}
use lib.Seq.{set_out, sets, sets-eq}
use Rattle.laws.specs.Front.{at_front}
use Rattle.reports.specs.TextSteps.{put_byte, puts, Put}

-- ---- piece after piece

-- of `whole`, put from a place of the room `old` on, `left` is to come
pub record Coming (write : Bool) (whole : List ℕ) (from : ℕ) (old left : List ℕ) (at : ℕ) (now : List ℕ) : Type 0 where
  pub same : puts write left (at, now) ≡ puts write whole (from, old)

puts-append : (write : Bool) (x y : List ℕ) (r : ℕ × List ℕ) → puts write (x ++ y) r ≡ puts write y (puts write x r)
unfolding puts
puts-append write [] y r = refl
puts-append write (b ∷ x) y r = puts-append write x y (put_byte write b r)

byte-length : (write : Bool) (b : ℕ) (r : ℕ × List ℕ) → length (cond write (set r.1 r.0 b) r.1) ≡ length r.1
byte-length true b r = length-set r.1 r.0 b
byte-length false b r = refl

puts-length : (write : Bool) (x : List ℕ) (r : ℕ × List ℕ) → length (puts write x r).1 ≡ length r.1
unfolding puts
puts-length write [] r = refl
puts-length write (b ∷ x) r = puts-length write x (put_byte write b r) ∙ byte-length write b r

module _ {write : Bool} where
  -- no bytes; bytes that equal others; one piece, and another behind it
  pub put-none : {x : List ℕ} {at : ℕ} {room : List ℕ} → x ≡ [] → Put write x at room at room
  unfolding puts
  put-none {x} {at} {room} e = record { is = sym (ap (λ (l : List ℕ). puts write l (at, room)) e) }

  pub put_as : {x y : List ℕ} {at next : ℕ} {old new : List ℕ} → x ≡ y → Put write x at old next new → Put write y at old next new
  put_as {x} {y} {at} {next} {old} e p = record { is = p.is ∙ ap (λ (l : List ℕ). puts write l (at, old)) e }

  pub put_both : {x y : List ℕ} {at next end : ℕ} {old mid new : List ℕ}
      → Put write x at old next mid → Put write y next mid end new → Put write (x ++ y) at old end new
  put_both {x} {y} {at} {next} {end} {old} p q = record { is = q.is ∙ ap (puts write y) p.is ∙ sym (puts-append write x y (at, old)) }

  module _ {whole old : List ℕ} {from : ℕ} where
    pub coming-starts : {x : List ℕ} → whole ≡ x → Coming write whole from old x from old
    coming-starts e = record { same = ap (λ (l : List ℕ). puts write l (from, old)) (sym e) }

    module _ {left now : List ℕ} {at : ℕ} (p : Coming write whole from old left at now) where
      -- the same is to come; a piece of it is put; the last is; there is none
      pub coming-same : {after : List ℕ} → left ≡ after → Coming write whole from old after at now
      coming-same e = record { same = sym (ap (λ (l : List ℕ). puts write l (at, now)) e) ∙ p.same }

      pub coming-on : {x y new : List ℕ} {next : ℕ} → left ≡ x ++ y → Put write x at now next new → Coming write whole from old y next new
      coming-on {x} {y} e q = record {
        same = ap (puts write y) q.is ∙ sym (ap (λ (l : List ℕ). puts write l (at, now)) e ∙ puts-append write x y (at, now)) ∙ p.same;
      }

      pub coming-last : {new : List ℕ} {next : ℕ} → Put write left at now next new → Put write whole from old next new
      coming-last q = record { is = q.is ∙ p.same }

      pub coming-ends : left ≡ [] → Put write whole from old at now
      coming-ends e = coming-last (put-none e)

      pub coming-length : length now ≡ length old
      coming-length =
          sym (puts-length write left (at, now)) ∙ ap (λ (r : ℕ × List ℕ). length r.1) p.same ∙ puts-length write whole (from, old)

-- ---- one byte

module _ (write : Bool) (b at : ℕ) (room : List ℕ) where
  pub byte_past : length room ≤ at → Put write (b ∷ []) at room (length room + 1) room
  unfolding puts
  byte_past h = record { is = rw (le-ltb at (length room) h) (ap₂ (λ (n : ℕ) (l : List ℕ). (n, l)) (add-one (length room)) (by write)) }
    where
      by : (t : Bool) → room ≡ cond t (set room at b) room
      by true = sym (set_out room at b h)
      by false = refl

  module _ (h : at < length room) where
    pub byte-written : write ≡ true → Put write (b ∷ []) at room (at + 1) (set room at b)
    unfolding puts
    byte-written e = record { is = rw (e, lt-ltb at (length room) h) (ap (λ (n : ℕ). (n, set room at b)) (add-one at)) }

    pub byte-counted : write ≡ false → Put write (b ∷ []) at room (at + 1) room
    unfolding puts
    byte-counted e = record { is = rw (e, lt-ltb at (length room) h) (ap (λ (n : ℕ). (n, room)) (add-one at)) }

-- ---- only counted

module _ (room : List ℕ) where
  beyond : (x : List ℕ) → puts false x (suc (length room), room) ≡ (suc (length room), room)
  unfolding puts
  beyond [] = refl
  beyond (b ∷ x) =
      ap (λ (t : Bool). puts false x (cond t (suc (suc (length room))) (suc (length room)), room)) (le-ltb (suc (length room)) (length room) (omega arith))
      ∙ beyond x

  pub counted : (x : List ℕ) (at : ℕ) → at + length x ≤ length room → puts false x (at, room) ≡ (at + length x, room)
  unfolding puts
  counted [] at h = ap (λ (n : ℕ). (n, room)) (let e : at ≡ at + 0 = omega arith in e)
  counted (b ∷ x) at h =
      ap (λ (t : Bool). puts false x (cond t (suc at) (suc (length room)), room)) (lt-ltb at (length room) (omega arith))
      ∙ counted x (suc at) (omega arith)
      ∙ ap (λ (n : ℕ). (n, room)) (let e : suc at + length x ≡ at + suc (length x) = omega arith in e)

  pub counted-over : (x : List ℕ) (at : ℕ) → at ≤ length room → length room < at + length x → puts false x (at, room) ≡ (suc (length room), room)
  unfolding puts
  counted-over [] at h l = absurd (omega arith)
  counted-over (b ∷ x) at h l = by (ltb at (length room)) refl (λ more. counted-over x (suc at) more (omega arith))
    where
      by : (t : Bool) → ltb at (length room) ≡ t → (suc at ≤ length room → puts false x (suc at, room) ≡ (suc (length room), room))
          → puts false x (cond t (suc at) (suc (length room)), room) ≡ (suc (length room), room)
      by true e on = on (ltb-true at (length room) e)
      by false e on = beyond x

-- ---- written

written_from : (x : List ℕ) (at : ℕ) (room : List ℕ) → at + length x ≤ length room → puts true x (at, room) ≡ (at + length x, sets room at x)
unfolding puts
written_from [] at room h = ap (λ (n : ℕ). (n, room)) (let e : at ≡ at + 0 = omega arith in e)
written_from (b ∷ x) at room h =
    ap (λ (t : Bool). puts true x (cond t (suc at) (suc (length room)), set room at b)) (lt-ltb at (length room) (omega arith))
    ∙ written_from x (suc at) (set room at b) (omega (arith, length-set room at b))
    ∙ ap (λ (n : ℕ). (n, sets room at (b ∷ x))) (let e : suc at + length x ≡ at + suc (length x) = omega arith in e)

pub written : (x room : List ℕ) → length x ≤ length room → puts true x (0, room) ≡ (length x, at_front x room)
written x room h =
    let n : 0 + length x ≡ length x = zero-add (length x) in
    written_from x 0 room (omega arith)
    ∙ ap₂ (λ (k : ℕ) (l : List ℕ). (k, l)) n (sets-eq x room 0 (omega arith) ∙ ap (λ (k : ℕ). x ++ drop k room) n)
