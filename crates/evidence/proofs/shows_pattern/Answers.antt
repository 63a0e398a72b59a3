-- `evidence::shows_pattern` meets its contract: the window's last mark is its pattern's. Assumes nothing.
use mathlib.Core.Path.{◌≡◌, sym, ap, ◌∙◌}
use mathlib.Core.Bool.{not}
use mathlib.Core.List.{List}
use Prim.Native.Nat.{ℕ, ◌*◌, ◌-◌, ◌%◌, ◌^◌}
use native.Mathlib.Omega.{arith}
use lib.Dec.{eqb}
use lib.ListN.{length, get_or, replicate}
use Rattle.laws.proofs.OneBit.{one_shl}
use Rattle.sets.specs.Sets.{bit_of}
use Rattle.sets.proofs.Sets.{bit_of-lt}
use Rattle.numbers.proofs.Numbers.{done-number, refused-number}
use Rattle.rules.specs.Marking.{numbered, answer_of, marks_after}
use Rattle.rules.proofs.Answers.{tells}
use Rattle.rules.specs.Terms.{Terms, alone}
use Rattle.evidence.proofs.Behind.{part-bounds, refused-alone, marked-alone}
use Rattle.evidence.proofs.shows_pattern.Goals.{After-bit, After-mark}
use Rattle.evidence.proofs.shows_pattern.Goals as goal

-- ---- the mask of the test alone, and what marking by it answers

one : (c : After-bit) → ((1 * 2 ^ c.bit.result) % 2 ^ 16) ≡ 2 ^ bit_of c.args.t
one c =
    one_shl c.bit.result 16 (omega (arith, c.bit.ensures, bit_of-lt c.args.t)) ∙ ap (λ (k : ℕ). 2 ^ k) c.bit.ensures

answered : (c : After-mark) → numbered c.mark.result ≡ answer_of (alone c.args.limits c.args.width) ((1 * 2 ^ c.bit.result) % 2 ^ 16) c.args.part.now 15
answered c =
    c.mark.ensures.answer ∙ ap (λ (terms : Terms). answer_of terms ((1 * 2 ^ c.bit.result) % 2 ^ 16) c.args.part.now 15) c.alone.ensures

pub returns-then-is_err : goal.returns-then-is_err
returns-then-is_err c =
    refused-alone c.args.limits c.args.width c.args.t c.args.part.now c.requires _ (one (goal.at.returns-then-is_err c).After-bit) (λ e. refused-number tells c.mark.result (sym c.is_err.ensures.value ∙ c.if-is_err.true) (answered (goal.at.returns-then-is_err c).After-mark ∙ e))

pub overflow_sub-result : goal.overflow_sub-result
overflow_sub-result c =
    (part-bounds c.args.t c.args.part.now c.requires).0

pub bounds-marks-part : goal.bounds-marks-part
bounds-marks-part c =
    omega (arith, part-bounds c.args.t c.args.part.now c.requires)

pub returns : goal.returns
returns c =
    ap (λ (m : List ℕ). not (eqb (get_or m (length c.args.part.now - 1) 0) 0))
    (c.mark.ensures.marks ∙ ap (λ (terms : Terms). marks_after terms ((1 * 2 ^ c.bit.result) % 2 ^ 16) c.args.part.now (replicate 15 0)) c.alone.ensures)
    ∙ marked-alone c.args.limits c.args.width c.args.t c.args.part.now c.requires _ (one (goal.at.returns c).After-bit) (sym (answered (goal.at.returns c).After-mark) ∙ done-number tells c.mark.result (sym c.is_err.ensures.value ∙ c.if-is_err.false))

pub overflow_cast-set : goal.overflow_cast-set
overflow_cast-set c =
    omega (arith, c.bit.ensures, bit_of-lt c.args.t)

pub overflow_shl-set : goal.overflow_shl-set
overflow_shl-set c =
    omega (arith, c.bit.ensures, bit_of-lt c.args.t)
