-- What fits lists fits longer ones. Assumes nothing.
use Rattle.std.proofs.Common.{ℕ, suc, arith}
use Rattle.logic.specs.Books.{Book}
use Rattle.logic.specs.Branches.{Branch}
use Rattle.logic.specs.Tableaux.{Closed, close, extend, split}
use Rattle.logic.specs.Limits.{AfterEachStep, Lengths, LongEnough, NoShorter, LongerListsFit}

-- where P holds after each step, so does what follows from it
pub each_weaker : {bk : Book} (P Q : ℕ → Branch → Type 0) → ((k : ℕ) (br : Branch) → P k br → Q k br) → (k : ℕ) {br : Branch} (t : Closed bk br) → AfterEachStep P k t → AfterEachStep Q k t
each_weaker P Q f k (close r) h = tt
each_weaker P Q f k (extend r t) h = (f k _ h.0, each_weaker P Q f k t h.1)
each_weaker P Q f k (split r t u) h = (f (suc k) _ h.0, each_weaker P Q f (suc k) t h.1, f k _ h.2, each_weaker P Q f k u h.3)

longer_take : (ls ms : Lengths) → NoShorter ls ms → (k : ℕ) (br : Branch) → LongEnough ls k br → LongEnough ms k br
longer_take ls ms n k br h = record { constraints = omega arith; edges = omega arith; splits = omega arith }

pub longer_lists_fit : LongerListsFit
longer_lists_fit bk br t ls ms n h = each_weaker (LongEnough ls) (LongEnough ms) (longer_take ls ms n) 0 t h
