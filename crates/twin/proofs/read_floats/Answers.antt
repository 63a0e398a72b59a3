-- `twin::read_floats` meets its contract. The values are written one after the other. Assumes nothing.
use Prim.Native.Nat.{ℕ, ◌/◌, ◌<◌}
use native.Mathlib.Omega.{arith}
use mathlib.Core.Path.{ap, ◌∙◌}
use mathlib.Core.List.{List, []}
use lib.Ieee.{binary64, of_bits}
use lib.ListN.{length, get_or}
use Rattle.std.specs.Int.{w64, from_le_bytes}
use Rattle.laws.proofs.Filling.{tabling-starts, tabling-goes-on, tabling-ends}
use Rattle.twin.specs.Bytes.{float_at, floats_of}
use Rattle.twin.proofs.FromBytes.{chunk_word}
use Rattle.twin.proofs.read_floats.Goals as goal

pub loop-i-init : goal.loop-i-init
loop-i-init c =
    let args = c.args in
    tabling-starts (float_at args.b.now) (length args.b.now / 8) args.out.now c.requires

pub loop-i-preserved : goal.loop-i-preserved
unfolding float_at
loop-i-preserved c =
    let args = c.args in
    let b = args.b.now in
    let here : c.loop-i.i < length b / 8 = omega (arith, c.loop-i-test.true, c.as_chunks.ensures.front_len) in
    let word = c.from_le_bytes.ensures
    ∙ ap (λ (l : List (List ℕ)). from_le_bytes w64 (get_or l c.loop-i.i [])) c.as_chunks.ensures.front
    ∙ chunk_word b c.loop-i.i here in
    tabling-goes-on (float_at b) (length b / 8) args.out.now c.loop-i.out c.loop-i.i c.loop-i.invariant c.of_bits.result
    here (c.of_bits.ensures ∙ ap (of_bits binary64) word)

pub returns : goal.returns
unfolding floats_of
returns c =
    let args = c.args in
    let b = args.b.now in
    tabling-ends (float_at b) (length b / 8) args.out.now c.loop-i.out c.loop-i.i c.loop-i.invariant
    (omega (arith, c.loop-i-test.false, c.as_chunks.ensures.front_len))
