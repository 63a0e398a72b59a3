-- `sheets::checker::first_wrong` meets its contract: the points that are left say what all of them say. Assumes nothing.
use mathlib.Core.Path.{◌≡◌, sym, ap, ◌∙◌}
use Prim.Native.Nat.{ℕ, ◌<◌}
use lib.ListN.{length, get_or}
use borrow.Author.Rules.{rules}
use Rattle.std.specs.Cmp.{unsigned_Decides}
use Rattle.std.proofs.lemmas.Slice.Eq.{slice_eq-Decides}
use Rattle.sheets.specs.Answers.{first_wrong}
use Rattle.sheets.proofs.Comparing.{all_right, all-right, first-differs}
use Rattle.sheets.proofs.checker.first_wrong.Goals as goal

pub returns-then-eq : goal.returns-then-eq
returns-then-eq c =
    let right = c.args.right.now in
    let same = (slice_eq-Decides unsigned_Decides right c.args.stated.now c.eq.result c.eq.ensures).0 c.if-eq.true in
    sym (all_right 0 right) ∙ ap (first_wrong 0 right) same

pub returns-in-None : goal.returns-in-None
returns-in-None c =
    let a = c.args in
    let each : (k : ℕ) → k < length a.right.now → get_or a.right.now k 0 ≡ get_or a.stated.now k 0 = search rules in
    all-right a.right.now a.stated.now c.requires each

pub returns-in-Some : goal.returns-in-Some
returns-in-Some c =
    let a = c.args in
    let i = c.in-Some.at in
    let there : i < length a.right.now = search rules in
    let other : get_or a.right.now i 0 ≡ get_or a.stated.now i 0 → ⊥ = search rules in
    let before : (k : ℕ) → k < i → get_or a.right.now k 0 ≡ get_or a.stated.now k 0 = search rules in
    first-differs a.right.now a.stated.now c.requires i there other before
