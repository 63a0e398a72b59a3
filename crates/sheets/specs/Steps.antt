-- What the parts of the checker and of the writer find and leave. Nothing here has to be believed: the proofs tie it to Said.antt and
-- Sheet.antt. Definitions only.
use Rattle.std.specs.Prelude.{cond, ◌≡◌, List, ◌++◌, ℕ, suc, ◌-◌, ◌*◌, ◌≤◌, ◌<◌, leb, length, take, drop, replicate, Result, Ok, Err, IfOk, ⊤}
use Rattle.groups.specs.declared.Read.{Read}
use Rattle.groups.specs.declared.Fault.{Fault}
use Rattle.groups.specs.Groups.{fault_is}
use Rattle.rules.specs.Marking.{most}
use Rattle.sheets.specs.declared.reader.Head.{Head}
use Rattle.sheets.specs.declared.reader.Entry.{Entry}
use Rattle.sheets.specs.declared.reader.Reach.{Reach}
use Rattle.sheets.specs.Sheet.{marked, entries_of}
use Rattle.sheets.specs.Said.{Said, fault, sheet, placed, entries}

-- ---- reading

-- a number that is at most so much
abbrev pub at_most : ℕ → ℕ → Result (Read ℕ) Fault → Result (Read ℕ) Fault
at_most top at (Err found) = fault_is at
at_most top at (Ok number) = cond (leb number.value top) (Ok number) (fault_is at)

-- what the numbers at the head have the entries say
abbrev pub behind : List ℕ → Head → Said
behind s head = entries s head.set head.marked head.points head.next

-- what is said, known the numbers at the head
abbrev pub after_head : List ℕ → Result Head Fault → Said
after_head s (Err found) = fault found.at
after_head s (Ok head) = behind s head

-- there are not too many points
abbrev pub Few : Result Head Fault → Type 0
Few r = IfOk r (λ head. head.points ≤ most)

-- what is said, known the first entry; k more follow
abbrev pub after_entry : List ℕ → ℕ → ℕ → ℕ → Result Entry Fault → Said
after_entry s set left k (Err found) = fault found.at
after_entry s set left k (Ok entry) = placed entry.skip entry.marks (entries s set k (left - suc entry.skip) entry.next)

-- its point is one of those left
abbrev pub Fits : ℕ → Result Entry Fault → Type 0
Fits left r = IfOk r (λ entry. entry.skip < left)

-- the first entry at a place
pub record FirstEntry (s : List ℕ) (set left at : ℕ) (e : Result Entry Fault) : Type 0 where
  pub goes : (k : ℕ) → entries s set (suc k) left at ≡ after_entry s set left k e
  pub fits : Fits left e

-- marks in front of what the rest says
abbrev pub in_front : List ℕ → Said → Said
in_front xs (fault p) = fault p
in_front xs (sheet set ms) = sheet set (xs ++ ms)

-- what is said, known how far reading has come: the marks of the points that are passed, in front of what the entries left say
abbrev pub told_from : List ℕ → ℕ → List ℕ → Reach → Said
told_from s set stated r = in_front (take r.point stated) (entries s set r.left (length stated - r.point) r.at)

-- the points that are not passed have no marks yet
pub record Blank (stated : List ℕ) (r : Reach) : Type 0 where
  pub within : r.point ≤ length stated
  pub zeros : drop r.point stated ≡ replicate (length stated - r.point) 0

-- reading has gone on, and the same is said
pub record Onward (s : List ℕ) (set : ℕ) (old : List ℕ) (from : Reach) (stated : List ℕ) (r : Reach) : Type 0 where
  pub long : length stated ≡ length old
  pub same : told_from s set old from ≡ told_from s set stated r
  pub blank : Blank stated r
  pub fewer : r.left ≤ from.left

-- what is said, known how the entries came out and the marks of every point
abbrev pub tells : ℕ → Result ⊤ Fault → List ℕ → Said
tells set (Err found) ms = fault found.at
tells set (Ok done) ms = sheet set ms

-- ---- writing

-- how many points are marked, and how long their entries are
pub record Measured (ms : List ℕ) (k n : ℕ) : Type 0 where
  pub points : k ≡ marked ms
  pub bytes : n ≡ length (entries_of 0 ms)
  pub few : k ≤ length ms
  pub short : n ≤ 20 * length ms
