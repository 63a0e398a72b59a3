-- The loop that reads a number, on plain numbers and in the code's own masks and shifts: the groups read so far, in front of what
-- is left, decide what is read. Assumes nothing.
use Prim.Native.Nat.{ℕ, suc, ◌+◌, ◌-◌, ◌*◌, ◌%◌, ◌^◌, ◌≤◌, ◌<◌}
use native.Mathlib.Omega.{arith}
use native.Mathlib.Nat.{add-mul, mul_assoc, mul_comm, add_comm}
use native.Mathlib.Numerals.{add-one}
use mathlib.Core.Path.{◌≡◌, refl, sym, ap, ap₂, ◌∙◌, subst}
use mathlib.Core.Bool.{Bool, true, false, cond, not, ◌&&◌}
use mathlib.Core.List.{List, ◌∷◌}
use lib.ListN.{length, take, drop, get_or, drop_of_length-le}
use lib.Seq.{drop-cons}
use Rattle.std.proofs.lemmas.List.{take_rest}
use lib.Arith.{digits_lt}
use lib.Pow.{pow-add, pow_mono, shl_exact}
use lib.Dec.{ltb, eqb}
use lib.Bits.{bit_and, bit_or, and_mask, or_shifted_r}
use borrow.Author.Tests.{ltb-true, ltb-false, ne_eqb, eq-eqb, eqb-true, eqb-false}
use mathlib.Core.Bool.{true≢false, false≢true}
use mathlib.Core.Logic.{⊎_elim}
use mathlib.Core.List.{[]}
use Rattle.std.proofs.Common.{Bor, Option, Result, Some, None, Ok, Err, ok_or, is_err}
use Rattle.std.specs.Slice.{IsGetRangeResult}
use Rattle.groups.specs.declared.Fault.{Fault}
use Rattle.groups.specs.Groups.{Front, some, none, before, front, read_as, number_at, number_is, fault_is}
use Rattle.groups.proofs.Strings.{before-some, before-zero, front-one, front-more}
use Rattle.groups.proofs.Numbers.{read_some, read-over}

-- ---- n groups worth `value` in front of what is read behind them, which counts p times and after a group is not zero

abbrev ahead : ℕ → ℕ → ℕ → Front → Front
ahead n p value none = none
ahead n p value (some v m) = cond (eqb v 0 && not (eqb n 0)) none (some (value + v * p) (n + m))

ahead_none : (r : Front) → ahead 0 1 0 r ≡ r
ahead_none none = refl
ahead_none (some v m) = by (eqb v 0)
  where
    by : (t : Bool) → cond (t && false) none (some (0 + v * 1) (0 + m)) ≡ some v m
    by true = ap₂ some (omega arith) (omega arith)
    by false = ap₂ some (omega arith) (omega arith)

ahead-some : (n p value v m : ℕ) → (v ≡ 0 → ⊥) → ahead n p value (some v m) ≡ some (value + v * p) (n + m)
ahead-some n p value v m h = simp (ne_eqb v 0 h)

ahead-zero : (n p value v m : ℕ) → v ≡ 0 → (n ≡ 0 → ⊥) → ahead n p value (some v m) ≡ none
ahead-zero n p value v m h g = simp (eq-eqb v 0 h, ne_eqb n 0 g)

-- one group more
ahead_before : (n p value low : ℕ) (r : Front) → ahead n p value (before low r) ≡ ahead (n + 1) (p * 128) (value + low * p) r
ahead_before n p value low none = refl
ahead_before n p value low (some v m) = by (eqb v 0) refl
  where
    by : (t : Bool) → eqb v 0 ≡ t → ahead n p value (before low (some v m)) ≡ ahead (n + 1) (p * 128) (value + low * p) (some v m)
    by true t =
        let z : v ≡ 0 = eqb-true v 0 t in
        ap (ahead n p value) (before-zero low v m z) ∙ sym (ahead-zero (n + 1) (p * 128) (value + low * p) v m z (omega arith))
    by false t =
        let nz : v ≡ 0 → ⊥ = eqb-false v 0 t in
        let sum : (low + v * 128) * p ≡ low * p + v * 128 * p = add-mul low (v * 128) p in
        let move : v * 128 * p ≡ v * (p * 128) = mul_assoc v 128 p ∙ ap (λ (x : ℕ). v * x) (mul_comm 128 p) in
        ap (ahead n p value) (before-some low v m nz)
        ∙ ahead-some n p value (low + v * 128) (suc m) (omega arith)
        ∙ ap₂ some (omega arith) (omega arith)
        ∙ sym (ahead-some (n + 1) (p * 128) (value + low * p) v m nz)

-- ---- the code's shifts

seven-more : (k : ℕ) → 2 ^ k * 128 ≡ 2 ^ (k + 7)
seven-more k = sym (pow-add 2 k 7)

-- a group of seven bits at its place
put-group : (value g shift : ℕ) → value < 2 ^ shift → g < 128 → shift + 7 ≤ 64 → bit_or value ((g * 2 ^ shift) % 2 ^ 64) ≡ value + g * 2 ^ shift
put-group value g shift h small fits =
    ap (bit_or value) (shl_exact 7 shift 64 small (omega arith)) ∙ or_shifted_r g shift value h ∙ add_comm (g * 2 ^ shift) value

put-lt : (value g shift : ℕ) → value < 2 ^ shift → g < 128 → value + g * 2 ^ shift < 2 ^ (shift + 7)
put-lt value g shift h small = omega (arith, digits_lt small h, seven-more shift, mul_comm (2 ^ shift) 128)

-- ---- over 64 bits: the tenth group is one, and nothing else

tenth-over : (at value : ℕ) (r : Front) → ((v m : ℕ) → r ≡ some v m → v ≡ 1 → ⊥) → read_as at (ahead 9 (2 ^ 63) value r) ≡ fault_is at
tenth-over at value none h = refl
tenth-over at value (some v m) h = by (eqb v 0) refl
  where
    by : (t : Bool) → eqb v 0 ≡ t → read_as at (ahead 9 (2 ^ 63) value (some v m)) ≡ fault_is at
    by true t = ap (read_as at) (ahead-zero 9 (2 ^ 63) value v m (eqb-true v 0 t) (omega arith))
    by false t =
        let nz : v ≡ 0 → ⊥ = eqb-false v 0 t in
        let other : v ≡ 1 → ⊥ = h v m refl in
        ap (read_as at) (ahead-some 9 (2 ^ 63) value v m nz) ∙ read-over at (value + v * 2 ^ 63) (9 + m) (omega arith)

before-not-one : (low : ℕ) (r : Front) (v m : ℕ) → before low r ≡ some v m → v ≡ 1 → ⊥
before-not-one low none v m e o = let z : ◌≡◌ {A = ℕ} 0 1 = cc in omega arith
before-not-one low (some w k) v m e o = by (eqb w 0) refl
  where
    by : (t : Bool) → eqb w 0 ≡ t → ⊥
    by true t =
        let never : none ≡ some v m = sym (before-zero low w k (eqb-true w 0 t)) ∙ e in
        let z : ◌≡◌ {A = ℕ} 0 1 = cc in
        omega arith
    by false t =
        let nz : w ≡ 0 → ⊥ = eqb-false w 0 t in
        let g : some (low + w * 128) (suc k) ≡ some v m = sym (before-some low w k nz) ∙ e in
        let value : low + w * 128 ≡ v = cc in
        omega arith

front-not-one : (b : ℕ) (bs : List ℕ) → (b ≡ 1 → ⊥) → (v m : ℕ) → front (b ∷ bs) ≡ some v m → v ≡ 1 → ⊥
front-not-one b bs other v m e o = by (ltb b 128) refl
  where
    by : (t : Bool) → ltb b 128 ≡ t → ⊥
    by true t =
        let g : some b 1 ≡ some v m = sym (front-one b bs (ltb-true b 128 t)) ∙ e in
        let value : b ≡ v = cc in
        other (value ∙ o)
    by false t = before-not-one (b % 128) (front bs) v m (sym (front-more b bs (ltb-false b 128 t)) ∙ e) o

-- ---- the loop

-- the first n bytes of r are groups with more to come, worth `value`
pub record Reads (r : List ℕ) (value n : ℕ) : Type 0 where
  pub few : n ≤ 9
  pub small : value < 2 ^ (7 * n)
  pub rest : front r ≡ ahead n (2 ^ (7 * n)) value (front (drop n r))

pub reads-starts : (r : List ℕ) → Reads r 0 0
reads-starts r = record { few = omega arith; small = omega arith; rest = sym (ahead_none (front r)) }

-- the bytes from the place on, as the code cuts them out
from-there : (s : List ℕ) (at : ℕ) → read_as at (front (take (length s - at) (drop at s))) ≡ number_at s at
unfolding number_at
from-there s at = ap (λ (l : List ℕ). read_as at (front l)) (take_rest s at)

-- What is lent from the place on, or the fault where that is past the end.
module _ (s : List ℕ) (at : ℕ) where
  pub there-is : (r : Option (Bor (List ℕ))) (f : Fault) (x : Bor (List ℕ)) → IsGetRangeResult s at (length s) r → ok_or r f ≡ Ok x
      → read_as at (front x.now) ≡ number_at s at
  there-is None f x h e = absurd (true≢false (ap is_err e))
  there-is (Some y) f x h e =
      ap (λ (o : Result (Bor (List ℕ)) Fault). read_as at (front (lent o))) (sym e) ∙ ap (λ (l : List ℕ). read_as at (front l)) h.0.2 ∙ from-there s at
    where
      lent : Result (Bor (List ℕ)) Fault → List ℕ
      lent (Ok z) = z.now
      lent (Err g) = []

  pub past-the-end : (r : Option (Bor (List ℕ))) (f g : Fault) → IsGetRangeResult s at (length s) r → ok_or r f ≡ Err g
      → (length s ≤ at) × (f ≡ g)
  past-the-end None f g h e = (⊎_elim (λ past. omega (arith, past)) (λ over. omega (arith, over)) h.0, ap why e)
    where
      why : Result (Bor (List ℕ)) Fault → Fault
      why (Ok z) = f
      why (Err k) = k
  past-the-end (Some y) f g h e = absurd (false≢true (ap is_err e))

module _ {r : List ℕ} {value n : ℕ} (t : Reads r value n) (at : ℕ) where
  -- the bytes end inside the number or before it
  pub reads-ends : length r ≤ n → fault_is at ≡ read_as at (front r)
  unfolding front
  reads-ends h = sym (ap (read_as at) (t.rest ∙ ap (λ (l : List ℕ). ahead n (2 ^ (7 * n)) value (front l)) (drop_of_length-le r h)))

  module _ (b : ℕ) (is : b ≡ get_or r n 0) (more : n < length r) where
    abbrev behind : List ℕ
    behind = drop (n + 1) r

    here : read_as at (front r) ≡ read_as at (ahead n (2 ^ (7 * n)) value (front (b ∷ behind)))
    here =
        ap (read_as at)
        (t.rest
        ∙ ap (λ (l : List ℕ). ahead n (2 ^ (7 * n)) value (front l))
        (drop-cons r n 0 more ∙ ap₂ (λ (x j : ℕ). x ∷ drop j r) (sym is) (sym (add-one n))))

    -- the last group, which is not zero or is the only one
    ends_with : (g : ℕ) → b ≡ g → g < 128 → ahead n (2 ^ (7 * n)) value (some g 1) ≡ some (value + g * 2 ^ (7 * n)) (n + 1)
        → value + g * 2 ^ (7 * n) < 2 ^ 64 → read_as at (front r) ≡ number_is (value + g * 2 ^ (7 * n)) (at + n + 1)
    ends_with g e small a fits =
        let past : at + (n + 1) ≡ at + n + 1 = omega arith in
        here
        ∙ ap (λ (x : ℕ). read_as at (ahead n (2 ^ (7 * n)) value (front (x ∷ behind)))) e
        ∙ ap (λ (r : Front). read_as at (ahead n (2 ^ (7 * n)) value r)) (front-one g behind small)
        ∙ ap (read_as at) a
        ∙ read_some at (value + g * 2 ^ (7 * n)) (n + 1) fits
        ∙ ap (number_is (value + g * 2 ^ (7 * n))) past

    pub reads-padding : b ≡ 0 → (7 * n ≡ 0 → ⊥) → fault_is at ≡ read_as at (front r)
    reads-padding e nz =
        let some-yet : n ≡ 0 → ⊥ = λ z. nz (ap (λ (k : ℕ). 7 * k) z) in
        sym (here
        ∙ ap (λ (r : Front). read_as at (ahead n (2 ^ (7 * n)) value r)) (front-one b behind (omega arith))
        ∙ ap (read_as at) (ahead-zero n (2 ^ (7 * n)) value b 1 e some-yet))

    -- fewer than nine groups so far
    module _ (early : 7 * n ≡ 63 → ⊥) where
      room : 7 * n + 7 ≤ 63
      room = omega (arith, t.few)

      -- the last group is zero only where it is the only one
      pub reads-last : b < 128 → (b ≡ 0 → 7 * n ≡ 0) → number_is (bit_or value ((b * 2 ^ (7 * n)) % 2 ^ 64)) (at + n + 1) ≡ read_as at (front r)
      reads-last small only =
          ap (λ (x : ℕ). number_is x (at + n + 1)) (put-group value b (7 * n) t.small small (omega (arith, room)))
          ∙ sym (ends_with b refl small (by (eqb b 0) refl)
          (omega (arith, put-lt value b (7 * n) t.small small, pow_mono {i = 7 * n + 7} {j = 63} room)))
        where
          by : (z : Bool) → eqb b 0 ≡ z → ahead n (2 ^ (7 * n)) value (some b 1) ≡ some (value + b * 2 ^ (7 * n)) (n + 1)
          by false z = ahead-some n (2 ^ (7 * n)) value b 1 (eqb-false b 0 z)
          by true z = let none_yet : n ≡ 0 = omega (arith, only (eqb-true b 0 z)) in simp (eq-eqb n 0 none_yet, z)

      group : bit_or value ((bit_and b 127 * 2 ^ (7 * n)) % 2 ^ 64) ≡ value + b % 128 * 2 ^ (7 * n)
      group =
          ap (λ (g : ℕ). bit_or value ((g * 2 ^ (7 * n)) % 2 ^ 64)) (and_mask b 7)
          ∙ put-group value (b % 128) (7 * n) t.small (omega arith) (omega (arith, room))

      next-place : 7 * n + 7 ≡ 7 * (n + 1)
      next-place = omega arith

      pub reads_on : 128 ≤ b → Reads r (bit_or value ((bit_and b 127 * 2 ^ (7 * n)) % 2 ^ 64)) (n + 1)
      reads_on large = rw group record {
        few = omega (arith, room);
        small = subst (λ (k : ℕ). value + b % 128 * 2 ^ (7 * n) < 2 ^ k) next-place (put-lt value (b % 128) (7 * n) t.small (omega arith));
        rest =
            t.rest
            ∙ ap (λ (l : List ℕ). ahead n (2 ^ (7 * n)) value (front l))
            (drop-cons r n 0 more ∙ ap₂ (λ (x j : ℕ). x ∷ drop j r) (sym is) (sym (add-one n)))
            ∙ ap (ahead n (2 ^ (7 * n)) value) (front-more b behind large)
            ∙ ahead_before n (2 ^ (7 * n)) value (b % 128) (front behind)
            ∙ ap (λ (p : ℕ). ahead (n + 1) p (value + b % 128 * 2 ^ (7 * n)) (front behind))
            (seven-more (7 * n) ∙ ap (λ (k : ℕ). 2 ^ k) next-place);
      }

    -- nine groups so far
    module _ (late : 7 * n ≡ 63) where
      nine : n ≡ 9
      nine = omega arith

      small_at : value < 2 ^ 63
      small_at = subst (λ (k : ℕ). value < 2 ^ k) late t.small

      pub reads-tenth : b ≡ 1 → number_is (bit_or value (2 ^ 63)) (at + n + 1) ≡ read_as at (front r)
      reads-tenth e =
          let sum : value + 1 * 2 ^ (7 * n) ≡ value + 1 * 2 ^ 63 = ap (λ (k : ℕ). value + 1 * 2 ^ k) late in
          ap (λ (x : ℕ). number_is x (at + n + 1)) (or_shifted_r 1 63 value small_at ∙ add_comm (1 * 2 ^ 63) value ∙ sym sum)
          ∙ sym (ends_with 1 e (omega arith) (ahead-some n (2 ^ (7 * n)) value 1 1 (omega arith)) (omega (arith, small_at, sum)))

      pub reads_over : (b ≡ 1 → ⊥) → fault_is at ≡ read_as at (front r)
      reads_over other =
          sym (here
          ∙ ap₂ (λ (k m : ℕ). read_as at (ahead m (2 ^ k) value (front (b ∷ behind)))) late nine
          ∙ tenth-over at value (front (b ∷ behind)) (front-not-one b behind other))
