-- Closed tableaux as trees, how they are written, and which entries they name.
-- Closed: a closed tableau over a branch. writing: its steps. names: whether some step names an entry.
-- named_count: how many different entries the steps name.
-- Assumes nothing.
use Rattle.std.specs.Prelude.{ℕ, zero, suc, ◌+◌, Bool, false, if◌then◌else◌, ◌&&◌, ◌||◌, List, [], ◌∷◌, ◌++◌, ◌==◌}
use Rattle.logic.specs.Bounds.{entry_limit}
use Rattle.logic.specs.declared.tableau.Step.{Step}
use Rattle.logic.specs.Books.{Book}
use Rattle.logic.specs.Branches.{Branch}
use Rattle.logic.specs.Rules.{Extends, Splits, Closes}

-- A closing rule; or an extending rule, with a closed tableau over the branch that it makes; or a
-- splitting rule, with a closed tableau over each of its two branches.
pub data Closed (bk : Book) : Branch → Type 0 where
  close : {br : Branch} {s : Step} → Closes bk br s → Closed bk br
  extend : {br br' : Branch} {s : Step} → Extends bk br s br' → Closed bk br' → Closed bk br
  split : {br left right : Branch} {s : Step} → Splits bk br s left right → Closed bk left → Closed bk right → Closed bk br

-- the rule's step, then the writings of its subtrees, first alternative first
abbrev pub writing : {bk : Book} {br : Branch} → Closed bk br → List Step
writing (close {s = s} r) = s ∷ []
writing (extend {s = s} r t) = s ∷ writing t
writing (split {s = s} r t u) = s ∷ (writing t ++ writing u)

-- some step with op 1 or 2 names entry i
abbrev pub names : List Step → ℕ → Bool
names [] i = false
names (s ∷ ss) i = ((s.op == 1 || s.op == 2) && s.a == i) || names ss i

-- how many of the numbers below n are named as entries
abbrev pub named_below : ℕ → List Step → ℕ
named_below zero ss = 0
named_below (suc n) ss = (if names ss n then 1 else 0) + named_below n ss

-- how many different entries are named; an entry's number is below the limit
abbrev pub named_count : List Step → ℕ
named_count ss = named_below entry_limit ss
