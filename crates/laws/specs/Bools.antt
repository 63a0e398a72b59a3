-- Words for lists of yes and no. Definitions only.
use Rattle.std.specs.Prelude.{Bool, true, ◌&&◌, List, [], ◌∷◌, ℕ, ◌+◌}
use mir.Val.{bool_byte}

-- all of them
unfoldable pub every : List Bool → Bool
every [] = true
every (b ∷ bs) = b && every bs

-- 1 for a yes, 0 for a no, as the code's casts have it
abbrev pub one : Bool → ℕ
one b = bool_byte b

-- how many of them
unfoldable pub count : List Bool → ℕ
count [] = 0
count (b ∷ bs) = one b + count bs
