-- Laws of yes and no. Assumes nothing.
use mathlib.Core.Path.{◌≡◌, refl, sym, ap, ◌∙◌}
use mathlib.Core.Bool.{Bool, true, false, not, ◌&&◌, ◌||◌, false≢true}

pub both : (a b : Bool) → (a && b) ≡ true → (a ≡ true) × (b ≡ true)
both true b h = (refl, h)
both false b h = absurd (false≢true h)

-- ---- what a function's answer tells of the test that it stands for

pub told : {answer test said : Bool} → answer ≡ test → answer ≡ said → test ≡ said
told e h = sym e ∙ h

pub told-not : {answer test said : Bool} → answer ≡ test → not answer ≡ said → not test ≡ said
told-not e h = rw e at h

pub told-against : {answer test said : Bool} → answer ≡ test → answer ≡ said → not test ≡ not said
told-against e h = ap not (sym e ∙ h)

pub or_left : (a b : Bool) → (a || b) ≡ false → a ≡ false
or_left true b e = e
or_left false b e = refl

pub or_right : (a b : Bool) → (a || b) ≡ false → b ≡ false
or_right true b e = cc
or_right false b e = e

pub or_yes : (a b : Bool) → a ≡ true → true ≡ (a || b)
or_yes a b e = rw e

pub or_no : (a b x : Bool) → a ≡ false → x ≡ b → x ≡ (a || b)
or_no a b x e f = rw e f
