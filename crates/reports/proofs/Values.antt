-- The loop over a flow file's values: those read so far, in front of what the rest says. Assumes nothing.
use mathlib.Core.Path.{◌≡◌, refl, sym, ap, ap₂, ◌∙◌}
use mathlib.Core.Bool.{true}
use mathlib.Core.List.{List, [], ◌∷◌, ◌++◌}
use Prim.Native.Nat.{ℕ, suc, ◌+◌, ◌-◌, ◌≤◌, ◌<◌}
use native.Mathlib.Numerals.{add-one}
use native.Mathlib.Omega.{arith}
use borrow.Author.Tests.{lt-ltb, le-ltb}
use lib.Ieee.{Float, binary64, of_bits}
use lib.ListN.{length, take, set, length-set}
use lib.Seq.{take-suc-set}
use Rattle.groups.specs.Groups.{number_at, number_is, fault_is}
use Rattle.charts.specs.declared.Chart.{Chart}
use Rattle.reports.specs.Flow.{Said, refused, flow, before, values_from}
use Rattle.groups.proofs.Onward.{no_number, in_place}

-- values in front of what the rest says
unfoldable pub ahead : List Float → Said → Said
ahead [] rest = rest
ahead (v ∷ vs) rest = before v (ahead vs rest)

ahead-refused : (vs : List Float) (why : ℕ) → ahead vs (refused why) ≡ refused why
unfolding ahead
ahead-refused [] why = refl
ahead-refused (v ∷ vs) why = ap (before v) (ahead-refused vs why)

ahead-flow : (vs : List Float) (c : Chart) → ahead vs (flow c []) ≡ flow c vs
unfolding ahead
ahead-flow [] c = refl
ahead-flow (v ∷ vs) c = ap (before v) (ahead-flow vs c)

ahead-one-more : (vs : List Float) (v : Float) (rest : Said) → ahead vs (before v rest) ≡ ahead (vs ++ (v ∷ [])) rest
unfolding ahead
ahead-one-more [] v rest = refl
ahead-one-more (w ∷ vs) v rest = ap (before w) (ahead-one-more vs v rest)

-- i of n values were read from `from` on, and stand at the front of the room; the next is at `at`
pub record Reads (s : List ℕ) (c : Chart) (n from : ℕ) (was room : List Float) (at i : ℕ) : Type 0 where
  pub most : i ≤ n
  pub same : length room ≡ length was
  pub goes : values_from s c n from ≡ ahead (take i room) (values_from s c (n - i) at)

pub reads-starts : (s : List ℕ) (c : Chart) (n from : ℕ) (was : List Float) → Reads s c n from was was from 0
unfolding ahead
reads-starts s c n from was = record {
  most = omega arith;
  same = refl;
  goes = ap (λ (k : ℕ). values_from s c k from) (let e : n ≡ n - 0 = omega arith in e);
}

module _ (s : List ℕ) (c : Chart) (n from : ℕ) (was room : List Float) (at i : ℕ) (r : Reads s c n from was room at i) where
  module _ (h : i < n) where
    rest-is : n - i ≡ suc (n - (i + 1))
    rest-is = omega arith

    pub reads-fault : (p : ℕ) → number_at s at ≡ fault_is p → values_from s c n from ≡ refused 12
    unfolding values_from
    reads-fault p e =
        r.goes
        ∙ ap (ahead (take i room)) (ap (λ (k : ℕ). values_from s c k at) rest-is ∙ no_number (refused 12) (refused 12) (λ v. true) s at _ p e)
        ∙ ahead-refused (take i room) 12

    pub reads-goes-on : (v next : ℕ) → number_at s at ≡ number_is v next → n ≤ length was
        → Reads s c n from was (set room i (of_bits binary64 v)) next (i + 1)
    unfolding values_from
    reads-goes-on v next e fits = record {
      most = omega arith;
      same = length-set room i (of_bits binary64 v) ∙ r.same;
      goes =
          r.goes
          ∙ ap (ahead (take i room)) (ap (λ (k : ℕ). values_from s c k at) rest-is ∙ in_place (refused 12) (refused 12) (λ v. true) s at _ v next e refl)
          ∙ ahead-one-more (take i room) (of_bits binary64 v) (values_from s c (n - (i + 1)) next)
          ∙ ap (λ (l : List Float). ahead l (values_from s c (n - (i + 1)) next))
          (sym (ap (λ (k : ℕ). take k (set room i (of_bits binary64 v))) (add-one i)
          ∙ take-suc-set room i (of_bits binary64 v) (omega (arith, r.same))));
    }

  module _ (h : n ≤ i) where
    all : values_from s c n from ≡ ahead (take n room) (values_from s c 0 at)
    all =
        let last : i ≡ n = omega (arith, r.most) in
        let none : n - i ≡ 0 = omega arith in
        r.goes ∙ ap₂ (λ (j k : ℕ). ahead (take j room) (values_from s c k at)) last none

    pub reads_more : at < length s → values_from s c n from ≡ refused 12
    unfolding values_from
    reads_more m = all ∙ ap (ahead (take n room)) (simp (lt-ltb at (length s) m)) ∙ ahead-refused (take n room) 12

    pub reads-ends : length s ≤ at → values_from s c n from ≡ flow c (take n room)
    unfolding values_from
    reads-ends m = all ∙ ap (ahead (take n room)) (simp (le-ltb at (length s) m)) ∙ ahead-flow (take n room) c
