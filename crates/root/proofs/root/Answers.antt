-- `root::root` meets its contract. `Answers.antt` has what is allowed at each bit pattern, and `Function.antt` that it is what `root_of` says.
-- Assumes nothing.
use Rattle.std.proofs.Common.{◌≡◌, ◌∙◌, ℕ, T, sym, subst, arith}
use lib.Ieee.{Float, binary64, fits, of_bits, to_bits}
use lib.Ieee.Bits.{of_bits-to_bits, to_bits-lt}
use Rattle.std.specs.Prelude.{Result, Ok}
use Rattle.root.specs.declared.NoRoot.{NoRoot}
use Rattle.root.specs.Root.{Allowed, done, numbered, no_root, root_of}
use Rattle.root.proofs.Function.{root_of-only}
use Rattle.root.proofs.Patterns.{above_zero, not-nan}
use Rattle.root.proofs.Answers.{allowed-root, allowed-zero, allowed-minus-zero, refused-from, refused-nan}
use Rattle.root.proofs.root.Goals.{Start}
use Rattle.root.proofs.root.Goals as goal

-- an `f64` that the code holds is one of the format
held : (c : Start) → T (fits binary64 c.args.x)
held c =
    subst T (sym c.well_formed.0.1) tt

-- both clauses of the contract
abbrev Answers : (x : Float) (a : Result Float NoRoot) → Type 0
Answers x a = Allowed x (numbered a) × (a ≡ root_of x)

both : (x : Float) (a : Result Float NoRoot) → T (fits binary64 x) → Allowed x (numbered a) → Answers x a
both x a t p = (p, root_of-only x a t p)

-- for an x that is known by its bits
by_bits : (x : Float) (a : Result Float NoRoot) → T (fits binary64 x) → Allowed (of_bits binary64 (to_bits binary64 x)) (numbered a) → Answers x a
by_bits x a t p = both x a t (subst (λ (y : Float). Allowed y (numbered a)) (of_bits-to_bits binary64 x t) p)

-- for a zero, whose bits are b
by_zero : (x : Float) (b : ℕ) → T (fits binary64 x) → to_bits binary64 x ≡ b
    → Allowed (of_bits binary64 b) (done (of_bits binary64 b)) → Answers x (Ok x)
by_zero x b t e p =
    let is : of_bits binary64 b ≡ x = subst (λ (n : ℕ). of_bits binary64 n ≡ x) e (of_bits-to_bits binary64 x t) in
    both x (Ok x) t (subst (λ (y : Float). Allowed y (done y)) is p)

pub returns-then-is_nan : goal.returns-then-is_nan
returns-then-is_nan c =
    let all = both c.args.x no_root (held (goal.at.returns-then-is_nan c).Start) (refused-nan c.args.x (sym c.is_nan.ensures.value ∙ c.if-is_nan.true)) in
    record { nearest = all.0; is = all.1 }

pub returns-then-b-eq0 : goal.returns-then-b-eq0
returns-then-b-eq0 c =
    let all = by_zero c.args.x 0 (held (goal.at.returns-then-b-eq0 c).Start) c.if-b-eq0.true allowed-zero in
    record { nearest = all.0; is = all.1 }

pub returns-then-b : goal.returns-then-b
returns-then-b c =
    let all = by_zero c.args.x 0x8000000000000000 (held (goal.at.returns-then-b c).Start) (omega (arith, c.if-b.true)) allowed-minus-zero in
    record { nearest = all.0; is = all.1 }

pub float_from_bits-result : goal.float_from_bits-result
float_from_bits-result c =
    not-nan c.root_bits.result c.root_bits.ensures.finite

pub returns-then-b-lt-INFINITY : goal.returns-then-b-lt-INFINITY
returns-then-b-lt-INFINITY c =
    let x = c.args.x in
    let b = to_bits binary64 x in
    let r = of_bits binary64 c.root_bits.result in
    let above = above_zero b (omega (arith, c.if-b-eq0.false)) c.if-b-lt-INFINITY.true in
    let all = by_bits x (Ok r) (held (goal.at.returns-then-b-lt-INFINITY c).Start) (allowed-root (of_bits binary64 b) r above c.root_bits.ensures.root) in
    record { nearest = all.0; is = all.1 }

pub returns-else-b-lt-INFINITY : goal.returns-else-b-lt-INFINITY
returns-else-b-lt-INFINITY c =
    let x = c.args.x in
    let all = by_bits x no_root (held (goal.at.returns-else-b-lt-INFINITY c).Start) (refused-from (to_bits binary64 x) c.if-b-lt-INFINITY.false c.if-b.false (to_bits-lt binary64 x (held (goal.at.returns-else-b-lt-INFINITY c).Start))) in
    record { nearest = all.0; is = all.1 }
