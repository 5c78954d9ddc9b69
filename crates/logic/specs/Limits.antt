-- How large a closed tableau is.
-- AfterEachStep: what holds after each step. Lengths: those of the three working lists.
-- FitsLists: the lists are long enough. WithinLimits: not too many steps and labels.
-- LongerListsFit: what fits lists fits longer ones.
-- Assumes nothing.
use Rattle.std.specs.Prelude.{ℕ, suc, ◌≤◌, length}
use Rattle.logic.specs.Bounds.{step_limit, label_limit}
use Rattle.logic.specs.Books.{Book}
use Rattle.logic.specs.Branches.{Branch}
use Rattle.logic.specs.Tableaux.{Closed, close, extend, split, writing}

-- After each step, P holds of the number of pending splits and the branch; k splits are pending at
-- first. A split is pending while its first alternative is being closed, and not during its second.
abbrev pub AfterEachStep : {bk : Book} → (ℕ → Branch → Type 0) → ℕ → {br : Branch} → Closed bk br → Type 0
AfterEachStep P k (close r) = Unit {0}
AfterEachStep P k (extend {br' = b} r t) = P k b × AfterEachStep P k t
AfterEachStep P k (split {left = b} {right = d} r t u) =
    P (suc k) b × AfterEachStep P (suc k) t × P k d × AfterEachStep P k u

-- for how many constraints, edges and pending splits three lists have room
pub record Lengths : Type 0 where
  pub constraints : ℕ
  pub edges : ℕ
  pub splits : ℕ

-- the lists have room for the branch and so many pending splits
pub record LongEnough (ls : Lengths) (pending : ℕ) (br : Branch) : Type 0 where
  pub constraints : length br.constraints ≤ ls.constraints
  pub edges : length br.edges ≤ ls.edges
  pub splits : pending ≤ ls.splits

-- after no step are there more constraints, edges or pending splits than the lists have room for
abbrev pub FitsLists : {bk : Book} {br : Branch} → Lengths → Closed bk br → Type 0
FitsLists ls t = AfterEachStep (LongEnough ls) 0 t

-- labels are the numbers below next
abbrev pub FewLabels : ℕ → Branch → Type 0
FewLabels pending br = br.next ≤ label_limit

-- not too many steps, and not too many labels on any branch
pub record WithinLimits {bk : Book} {br : Branch} (t : Closed bk br) : Type 0 where
  pub steps : length (writing t) ≤ step_limit
  pub labels : AfterEachStep FewLabels 0 t

-- each list of the second is at least as long
pub record NoShorter (ls ms : Lengths) : Type 0 where
  pub constraints : ls.constraints ≤ ms.constraints
  pub edges : ls.edges ≤ ms.edges
  pub splits : ls.splits ≤ ms.splits

-- a closed tableau that fits lists fits longer ones
abbrev pub LongerListsFit : Type 0
LongerListsFit = (bk : Book) (br : Branch) (t : Closed bk br) (ls ms : Lengths) → NoShorter ls ms → FitsLists ls t → FitsLists ms t
