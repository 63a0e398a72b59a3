-- `sheets::reader::read_head` meets its contract: its numbers are those of `said_from`, in the same order. Assumes nothing.
use mathlib.Core.Path.{◌≡◌, sym, ap, ◌∙◌}
use borrow.Author.Rules.{rules}
use Rattle.std.specs.Prelude.{Err}
use Rattle.sheets.specs.Said.{said_from}
use Rattle.sheets.specs.Steps.{after_head}
use Rattle.sheets.proofs.Reading.{number_read, number-fault, number-low}
use Rattle.sheets.proofs.reader.read_head.Goals as goal

pub returns-in_err-points : goal.returns-in_err-points
unfolding said_from
returns-in_err-points c =
    let s = c.args.s.now in
    let passed_on : c.from_residual.result ≡ Err c.in_err-points.field-0.0 = search rules in
    record {
      said = number-fault 4096 0 _ s _ (sym c.read_at_most.ensures ∙ c.in_err-points.was) ∙ ap (after_head s) (sym passed_on);
      few = search rules;
    }

pub returns-in_err-set : goal.returns-in_err-set
unfolding said_from
returns-in_err-set c =
    let s = c.args.s.now in
    let passed_on : c.from_residual-in_err-set.result ≡ Err c.in_err-set.field-0.0 = search rules in
    let first = number_read 4096 0 _ s _ (sym c.read_at_most.ensures ∙ c.in_ok-points.was) in
    record {
      said = first ∙ number-fault 511 _ _ s _ (sym (rw c.from.ensures at c.read_at_most-2.ensures) ∙ c.in_err-set.was) ∙ ap (after_head s) (sym passed_on);
      few = search rules;
    }

pub returns-in_err-marked : goal.returns-in_err-marked
unfolding said_from
returns-in_err-marked c =
    let s = c.args.s.now in
    let passed_on : c.from_residual-in_err-marked.result ≡ Err c.in_err-marked.field-0.0 = search rules in
    let first = number_read 4096 0 _ s _ (sym c.read_at_most.ensures ∙ c.in_ok-points.was) in
    let second = number_read 511 _ _ s _ (sym (rw c.from.ensures at c.read_at_most-2.ensures) ∙ c.in_ok-set.was) in
    record {
      said = first ∙ second ∙ number-fault _ _ _ s _ (sym c.read_at_most-3.ensures ∙ c.in_err-marked.was) ∙ ap (after_head s) (sym passed_on);
      few = search rules;
    }

pub returns : goal.returns
unfolding said_from
returns c =
    let s = c.args.s.now in
    let read = sym c.read_at_most.ensures ∙ c.in_ok-points.was in
    let first = number_read 4096 0 _ s _ read in
    let second = number_read 511 _ _ s _ (sym (rw c.from.ensures at c.read_at_most-2.ensures) ∙ c.in_ok-set.was) in
    let third = number_read _ _ _ s _ (sym c.read_at_most-3.ensures ∙ c.in_ok-marked.was) in
    record { said = first ∙ second ∙ third; few = number-low 4096 0 s _ read }
