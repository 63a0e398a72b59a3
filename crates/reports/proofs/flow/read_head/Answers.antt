-- `flow::read_head` meets its contract: its numbers are those of `head_from`, in the same order. Assumes nothing.
use mathlib.Core.Path.{◌≡◌, sym, ap, ◌∙◌, transport}
use mathlib.Core.Bool.{false, not}
use Prim.Native.Nat.{ℕ}
use borrow.Author.Rules.{rules}
use borrow.Author.Tests.{lt-ltb, le-ltb}
use Rattle.std.specs.Prelude.{Err}
use Rattle.laws.proofs.Bools.{told}
use Rattle.sets.specs.Sets.{too_large}
use Rattle.charts.specs.declared.Chart.{Chart}
use Rattle.charts.specs.Records.{new_chart, with_set, with_count, kind_wrong, size_wrong}
use Rattle.charts.proofs.Held.{size-bounds}
use Rattle.reports.specs.declared.flow.Refusal.TheVariants.{Form}
use Rattle.reports.specs.Steps.{size, Legal, after_head}
use Rattle.reports.specs.Flow.{refused, values_from, count_wrong, head_from}
use Rattle.groups.proofs.Onward.{no_number, out-of-place}
use Rattle.reports.proofs.Heads.{goes, after_kind, after_size, after_set, after_count, chart-made, none_made, legal}
use Rattle.reports.proofs.flow.read_head.Goals.{Else-kind_wrong, Else-set, In-Ok}
use Rattle.reports.proofs.flow.read_head.Goals as goal

-- ---- past each number that was read and is not wrong

past-kind : (c : Else-kind_wrong) → head_from c.args.s.now 0 ≡ after_kind c.args.s.now c.in_ok-kind.kind.value c.in_ok-kind.kind.next
unfolding head_from
past-kind c =
    goes 12 kind_wrong c.args.s.now 0 (after_kind c.args.s.now)
    (record { stands = sym c.in_ok-kind.ensures; right = told c.kind_wrong.ensures c.if-kind_wrong.false })

made : (c : In-Ok) → (size_wrong c.in_ok-kind.kind.value c.in_ok-size.size.value ≡ false) × (c.in-Ok.chart ≡ new_chart c.in_ok-kind.kind.value c.in_ok-size.size.value)
made c =
    chart-made _ _ (told c.kind_wrong.ensures c.if-kind_wrong.false) c.in-Ok.chart c.in-Ok.ensures

past-size : (c : In-Ok)
    → after_kind c.args.s.now c.in_ok-kind.kind.value c.in_ok-kind.kind.next
    ≡ after_size c.args.s.now c.in_ok-kind.kind.value c.in_ok-size.size.value c.in_ok-size.size.next
past-size c =
    goes 1 (size_wrong c.in_ok-kind.kind.value) c.args.s.now c.in_ok-kind.kind.next (after_size c.args.s.now c.in_ok-kind.kind.value)
    (record { stands = sym c.in_ok-size.ensures; right = (made c).0 })

past-set : (c : Else-set)
    → after_size c.args.s.now c.in_ok-kind.kind.value c.in_ok-size.size.value c.in_ok-size.size.next
    ≡ after_set c.args.s.now c.in_ok-kind.kind.value c.in_ok-size.size.value c.in_ok-set.set.value c.in_ok-set.set.next
past-set c =
    goes 4 too_large c.args.s.now c.in_ok-size.size.next (after_set c.args.s.now c.in_ok-kind.kind.value c.in_ok-size.size.value)
    (record { stands = sym c.in_ok-set.ensures; right = le-ltb _ c.in_ok-set.set.value c.if-set.false })

-- the head that was read
abbrev named : ℕ → ℕ → Chart → Chart
named set count chart = with_count (with_set chart (record { mask = set })) count

-- ---- each return

pub returns-in_err-kind-clause-said : goal.returns-in_err-kind-clause-said
unfolding head_from
returns-in_err-kind-clause-said c =
    let told : c.from_residual.result ≡ Err Form = search rules in
    no_number (refused 12) (refused 12) (λ (v : ℕ). not (kind_wrong v)) c.args.s.now 0 (after_kind c.args.s.now) c.in_err-kind.field-0.0.at (sym c.in_err-kind.ensures) ∙ sym (ap (after_head c.args.s.now) told)

pub returns-then-kind_wrong-clause-said : goal.returns-then-kind_wrong-clause-said
unfolding head_from
returns-then-kind_wrong-clause-said c =
    out-of-place (refused 12) (refused 12) (λ (v : ℕ). not (kind_wrong v)) c.args.s.now 0 (after_kind c.args.s.now) _ _ (sym c.in_ok-kind.ensures) (ap not (told c.kind_wrong.ensures c.if-kind_wrong.true))

pub returns-in_err-size-clause-said : goal.returns-in_err-size-clause-said
returns-in_err-size-clause-said c =
    let told : c.from_residual-in_err-size.result ≡ Err Form = search rules in
    past-kind (goal.at.returns-in_err-size-clause-said c).Else-kind_wrong
    ∙ no_number (refused 12) (refused 1) (λ (v : ℕ). not (size_wrong c.in_ok-kind.kind.value v)) c.args.s.now c.in_ok-kind.kind.next (after_size c.args.s.now c.in_ok-kind.kind.value) c.in_err-size.field-0.0.at (sym c.in_err-size.ensures) ∙ sym (ap (after_head c.args.s.now) told)

pub returns-in_default-clause-said : goal.returns-in_default-clause-said
returns-in_default-clause-said c =
    let right = told c.kind_wrong.ensures c.if-kind_wrong.false in
    past-kind (goal.at.returns-in_default-clause-said c).Else-kind_wrong
    ∙ out-of-place (refused 12) (refused 1) (λ (v : ℕ). not (size_wrong c.in_ok-kind.kind.value v)) c.args.s.now c.in_ok-kind.kind.next (after_size c.args.s.now c.in_ok-kind.kind.value) _ _ (sym c.in_ok-size.ensures) (ap not (none_made _ _ right c.in_default.field-0 c.in_default.ensures))

pub returns-in_err-set-clause-said : goal.returns-in_err-set-clause-said
returns-in_err-set-clause-said c =
    let told : c.from_residual-in_err-set.result ≡ Err Form = search rules in
    past-kind (goal.at.returns-in_err-set-clause-said c).Else-kind_wrong ∙ past-size (goal.at.returns-in_err-set-clause-said c).In-Ok
    ∙ no_number (refused 12) (refused 4) (λ (v : ℕ). not (too_large v)) c.args.s.now c.in_ok-size.size.next (after_set c.args.s.now c.in_ok-kind.kind.value c.in_ok-size.size.value) c.in_err-set.field-0.0.at (sym c.in_err-set.ensures) ∙ sym (ap (after_head c.args.s.now) told)

pub returns-then-set-clause-said : goal.returns-then-set-clause-said
returns-then-set-clause-said c =
    past-kind (goal.at.returns-then-set-clause-said c).Else-kind_wrong ∙ past-size (goal.at.returns-then-set-clause-said c).In-Ok
    ∙ out-of-place (refused 12) (refused 4) (λ (v : ℕ). not (too_large v)) c.args.s.now c.in_ok-size.size.next (after_set c.args.s.now c.in_ok-kind.kind.value c.in_ok-size.size.value) _ _ (sym c.in_ok-set.ensures) (ap not (lt-ltb _ _ c.if-set.true))

pub returns-in_err-count-clause-said : goal.returns-in_err-count-clause-said
returns-in_err-count-clause-said c =
    let told : c.from_residual-in_err-count.result ≡ Err Form = search rules in
    past-kind (goal.at.returns-in_err-count-clause-said c).Else-kind_wrong ∙ past-size (goal.at.returns-in_err-count-clause-said c).In-Ok ∙ past-set (goal.at.returns-in_err-count-clause-said c).Else-set
    ∙ no_number (refused 12) (refused 5) (λ (v : ℕ). not (count_wrong c.in_ok-size.size.value v)) c.args.s.now c.in_ok-set.set.next (after_count c.args.s.now c.in_ok-kind.kind.value c.in_ok-size.size.value c.in_ok-set.set.value) c.in_err-count.field-0.0.at (sym c.in_err-count.ensures) ∙ sym (ap (after_head c.args.s.now) told)

pub count_wrong-requires : goal.count_wrong-requires
count_wrong-requires c =
    (size-bounds _ _ (made (goal.at.count_wrong-requires c).In-Ok).0).1

pub returns-then-count_wrong-clause-said : goal.returns-then-count_wrong-clause-said
returns-then-count_wrong-clause-said c =
    past-kind (goal.at.returns-then-count_wrong-clause-said c).Else-kind_wrong ∙ past-size (goal.at.returns-then-count_wrong-clause-said c).In-Ok ∙ past-set (goal.at.returns-then-count_wrong-clause-said c).Else-set
    ∙ out-of-place (refused 12) (refused 5) (λ (v : ℕ). not (count_wrong c.in_ok-size.size.value v)) c.args.s.now c.in_ok-set.set.next (after_count c.args.s.now c.in_ok-kind.kind.value c.in_ok-size.size.value c.in_ok-set.set.value) _ _ (sym c.in_ok-count.ensures) (ap not (told c.count_wrong.ensures c.if-count_wrong.true))

pub returns-clause-said : goal.returns-clause-said
returns-clause-said c =
    past-kind (goal.at.returns-clause-said c).Else-kind_wrong ∙ past-size (goal.at.returns-clause-said c).In-Ok ∙ past-set (goal.at.returns-clause-said c).Else-set
    ∙ goes 5 (count_wrong c.in_ok-size.size.value) c.args.s.now c.in_ok-set.set.next (after_count c.args.s.now c.in_ok-kind.kind.value c.in_ok-size.size.value c.in_ok-set.set.value)
    (record { stands = sym c.in_ok-count.ensures; right = told c.count_wrong.ensures c.if-count_wrong.false })
    ∙ ap (λ (chart : Chart). values_from c.args.s.now (named c.in_ok-set.set.value c.in_ok-count.count.value chart) (size (named c.in_ok-set.set.value c.in_ok-count.count.value chart)) c.in_ok-count.count.next) (sym (made (goal.at.returns-clause-said c).In-Ok).1)

pub returns-clause-legal : goal.returns-clause-legal
returns-clause-legal c =
    let is = made (goal.at.returns-clause-legal c).In-Ok in
    transport (λ i. Legal (named c.in_ok-set.set.value c.in_ok-count.count.value (sym is.1 i)))
    (legal c.in_ok-kind.kind.value c.in_ok-size.size.value c.in_ok-set.set.value c.in_ok-count.count.value (told c.kind_wrong.ensures c.if-kind_wrong.false) is.0 c.if-set.false
    (told c.count_wrong.ensures c.if-count_wrong.false))
