-- `twin::put_marks` meets its contract. The bytes are written two at a time. Assumes nothing.
use Prim.Native.Nat.{ℕ, ◌+◌, ◌-◌, ◌*◌, ◌/◌, ◌%◌, ◌<◌}
use native.Mathlib.Numerals.{add-one}
use native.Mathlib.Omega.{arith}
use mathlib.Core.Path.{◌≡◌, sym, ap, ap₂, ◌∙◌, subst}
use mathlib.Core.List.{List}
use lib.ListN.{length, get_or, set}
use borrow.Rule.Slice.PartMut.{put_mid}
use Rattle.laws.proofs.Filling.{Filling, filling-starts, filling-length, filling-goes-on, filling-ends}
use Rattle.twin.specs.Bytes.{bytes_of}
use Rattle.twin.proofs.FromBytes.{length-bytes, low_byte, high_byte, two_set}
use Rattle.twin.proofs.put_marks.Goals as goal

pub loop-i-init : goal.loop-i-init
loop-i-init c =
    let args = c.args in
    filling-starts (bytes_of args.ms.now) args.out.now (omega (arith, length-bytes args.ms.now, c.requires))

pub loop-i-preserved : goal.loop-i-preserved
loop-i-preserved c =
    let ms = c.args.ms.now in
    let i = c.loop-i.i in
    let out = c.loop-i.out in
    let old = c.args.out.now in
    let bytes = bytes_of ms in
    let m = get_or ms i 0 in
    let here : i < length ms = c.loop-i-test.true in
    let many = length-bytes ms in
    let fits = c.type_inv.ms i in
    let all = filling-length bytes old out (2 * i) c.loop-i.invariant in
    let first = filling-goes-on bytes old out (2 * i) c.loop-i.invariant 0 (m % 256) (omega arith) (sym (low_byte ms i here)) in
    let high-is : m / 256 % 256 ≡ get_or bytes (2 * i + 1) 0 = omega (arith, high_byte ms i here, fits) in
    let second = filling-goes-on bytes old (set out (2 * i) (m % 256)) (2 * i + 1) first 0 (m / 256 % 256) (omega arith) high-is in
    let two : 2 * i + 1 + 1 ≡ 2 * (i + 1) = omega arith in
    let pair = c.copy_from_slice.ensures.after ∙ c.to_le_bytes.ensures in
    let size : 2 * i + 2 - 2 * i ≡ 2 = omega arith in
    let put = ap₂ (λ (n : ℕ) (l : List ℕ). put_mid (2 * i) n out l) size pair
    ∙ two_set out (2 * i) (m % 256) (m / 256 % 256) (omega (arith, all, c.requires, here))
    ∙ ap (λ (k : ℕ). set (set out (2 * i) (m % 256)) k (m / 256 % 256)) (sym (add-one (2 * i))) in
    subst (λ (l : List ℕ). Filling bytes old l (2 * (i + 1))) (sym put) (subst (Filling bytes old _) two second)

pub returns : goal.returns
returns c =
    let args = c.args in
    filling-ends (bytes_of args.ms.now) args.out.now c.loop-i.out (2 * c.loop-i.i) c.loop-i.invariant
    (omega (arith, length-bytes args.ms.now, c.loop-i-test.false))
