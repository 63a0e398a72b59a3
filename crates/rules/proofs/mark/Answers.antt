-- `rules::mark` meets its contract: nothing is written where it refuses, and else the slice is filled,
-- and what reaches over stops taken out. Assumes nothing.
use mathlib.Core.Path.{◌≡◌, sym, ap, ◌∙◌}
use native.Mathlib.Omega.{arith}
use lib.ListN.{length}
use borrow.Author.Rules.{rules}
use Rattle.std.specs.Prelude.{Err}
use Rattle.laws.specs.Front.{at_front}
use Rattle.rules.specs.declared.Lines.{Lines}
use Rattle.rules.specs.Terms.{told}
use Rattle.rules.specs.Marking.{numbered, refusal, marks_by, cuts_of, marks_of}
use Rattle.rules.proofs.Answers.{number-above}
use Rattle.rules.proofs.Stopped.{parted}
use Rattle.rules.proofs.Accepted.{answer-refused, answer-short, answer-done, marks-kept, marks-written}
use Rattle.rules.proofs.mark.Goals.{In_ok-ahead}
use Rattle.rules.proofs.mark.Goals as goal

pub returns-in_err-ahead : goal.returns-in_err-ahead
returns-in_err-ahead c =
    let args = c.args in
    let terms = told args.terms in
    let set = args.set.mask in
    let values = args.values.now in
    let old = args.marks.now in
    let why = c.in_err-ahead.field-0.0 in
    let passed_on : c.from_residual.result ≡ Err why = search rules in
    let known = sym (ap numbered c.in_err-ahead.was) ∙ c.ahead.ensures in
    let some : refusal terms set values ≡ 0 → ⊥ = λ e. omega (arith, number-above why, known, e) in
    let answer = answer-refused terms set values (length old) some in record {
      answer = ap numbered passed_on ∙ known ∙ sym answer;
      marks = marks-kept terms set values old (λ e. some (sym answer ∙ e));
    }

-- behind the first tests
none : (c : In_ok-ahead) → refusal (told c.args.terms) c.args.set.mask c.args.values.now ≡ 0
none c =
    sym c.ahead.ensures ∙ ap numbered c.in_ok-ahead.was

pub returns-then-marks-n : goal.returns-then-marks-n
returns-then-marks-n c =
    let args = c.args in
    let terms = told args.terms in
    let set = args.set.mask in
    let values = args.values.now in
    let old = args.marks.now in
    let answer = answer-short terms set values (length old) (none (goal.at.returns-then-marks-n c).In_ok-ahead) c.if-marks-n.true in record {
      answer = sym answer;
      marks = marks-kept terms set values old (λ e. omega (arith, answer, e));
    }

pub returns : goal.returns
unfolding marks_of
returns c =
    let args = c.args in
    let terms = told args.terms in
    let set = args.set.mask in
    let values = args.values.now in
    let old = args.marks.now in
    let answer = answer-done terms set values (length old) (none (goal.at.returns c).In_ok-ahead) c.if-marks-n.false in record {
      answer = sym answer;
      marks = parted _ set values terms.stops terms.moving old _ _ c.fill.ensures c.part.ensures
          ∙ ap (λ (l : Lines). at_front (marks_by (cuts_of terms) l set values) old) c.lines_of.ensures
          ∙ marks-written terms set values old answer;
    }
