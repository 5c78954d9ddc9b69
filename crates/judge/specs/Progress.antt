-- A tableau that is checked step by step.
-- Room: the lists and labels suffice for a branch. Underway: the branches that are open after some steps.
-- Finished: the last branch is closed.
-- Assumes nothing.
use Rattle.std.specs.Prelude.{ℕ, suc, List, [], ◌∷◌, ◌++◌, length}
use Rattle.logic.specs.declared.tableau.Step.{Step}
use Rattle.logic.specs.Books.{Book}
use Rattle.logic.specs.Branches.{Branch, start}
use Rattle.logic.specs.Rules.{Extends, Splits, Closes}
use Rattle.logic.specs.Limits.{Lengths, LongEnough, FewLabels}

-- the lists have room for the branch and so many pending splits, and no label is above 255
pub record Room (ls : Lengths) (pending : ℕ) (br : Branch) : Type 0 where
  pub lists : LongEnough ls pending br
  pub labels : FewLabels pending br

-- After these steps br is the current branch. The other open branches are the second branches of the
-- pending splits, the latest first.
pub data Underway (bk : Book) (ls : Lengths) : List Step → Branch → List Branch → Type 0 where
  begun : Underway bk ls [] start []
  -- a rule that extends the branch
  extended : {ss : List Step} {br b : Branch} {ps : List Branch} {s : Step} → Underway bk ls ss br ps →
      Extends bk br s b → Room ls (length ps) b → Underway bk ls (ss ++ s ∷ []) b ps
  -- a rule that splits it: the first branch becomes the current one, the second is pending
  divided : {ss : List Step} {br left right : Branch} {ps : List Branch} {s : Step} → Underway bk ls ss br ps →
      Splits bk br s left right → Room ls (suc (length ps)) left → Underway bk ls (ss ++ s ∷ []) left (right ∷ ps)
  -- a rule that closes it: the latest pending branch becomes the current one
  resumed : {ss : List Step} {br b : Branch} {ps : List Branch} {s : Step} → Underway bk ls ss br (b ∷ ps) →
      Closes bk br s → Underway bk ls (ss ++ s ∷ []) b ps

-- the last of these steps closes the last branch
pub data Finished (bk : Book) (ls : Lengths) : List Step → Type 0 where
  ended : {ss : List Step} {br : Branch} {s : Step} → Underway bk ls ss br [] → Closes bk br s → Finished bk ls (ss ++ s ∷ [])
