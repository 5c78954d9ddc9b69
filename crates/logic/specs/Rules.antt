-- The rules of the tableau: for each, the step that it is written as, and what it makes of a branch.
-- Extends: one branch. Splits: two branches, first alternative first. Closes: none.
-- NoRule: a step that no rule permits.
-- Assumes nothing.
use Rattle.std.specs.Prelude.{◌≡◌, ℕ, ◌<◌, [], ◌∷◌}
use Rattle.logic.specs.declared.records.Node.{Node}
use Rattle.logic.specs.declared.records.Node.TheVariants.{Top, Bottom, Not, And, Or, All, Exists, Typical}
use Rattle.logic.specs.declared.records.Entry.TheVariants.{Inclusion, Fact, RoleFact}
use Rattle.logic.specs.declared.tableau.Form.TheVariants.{Holds, Fails, Bars, Admits}
use Rattle.logic.specs.declared.tableau.Step.{Step}
use Rattle.logic.specs.Books.{Book, node_at}
use Rattle.logic.specs.Satisfaction.{Live}
use Rattle.logic.specs.Branches.{Branch, better_role, constraint, edge, with, with_new, Says, Leads}

-- a rule's op, and its two operands, an unused one being 0
abbrev pub step : ℕ → ℕ → ℕ → Step
step op a b = record { op = op; a = a; b = b }

-- node n of the book is the given one
abbrev pub Is : Book → ℕ → Node → Type 0
Is bk n node = node_at bk n ≡ node

-- rules that extend a branch: the step, and the branch that it makes
pub data Extends (bk : Book) (br : Branch) : Step → Branch → Type 0 where
  -- 1: a live fact or role fact
  fact : {a x c : ℕ} → Live bk a (Fact x c) →
      Extends bk br (step 1 a 0) (with br (constraint x Holds c ∷ []) [])
  role_fact : {a r x y : ℕ} → Live bk a (RoleFact r x y) →
      Extends bk br (step 1 a 0) (with br [] (edge x r y ∷ []))
  -- 3: not
  not_holds : {a x n c : ℕ} → Says br a x Holds n → Is bk n (Not c) →
      Extends bk br (step 3 a 0) (with br (constraint x Fails c ∷ []) [])
  not_fails : {a x n c : ℕ} → Says br a x Fails n → Is bk n (Not c) →
      Extends bk br (step 3 a 0) (with br (constraint x Holds c ∷ []) [])
  -- 4: and, if it holds; or, if it fails
  and_holds : {a x n c d : ℕ} → Says br a x Holds n → Is bk n (And c d) →
      Extends bk br (step 4 a 0) (with br (constraint x Holds c ∷ constraint x Holds d ∷ []) [])
  or_fails : {a x n c d : ℕ} → Says br a x Fails n → Is bk n (Or c d) →
      Extends bk br (step 4 a 0) (with br (constraint x Fails c ∷ constraint x Fails d ∷ []) [])
  -- 6: some, if it holds; all, if it fails: to a new label
  some_holds : {a x n r c : ℕ} → Says br a x Holds n → Is bk n (Exists r c) →
      Extends bk br (step 6 a 0) (with_new br (constraint br.next Holds c ∷ []) (edge x r br.next ∷ []))
  all_fails : {a x n r c : ℕ} → Says br a x Fails n → Is bk n (All r c) →
      Extends bk br (step 6 a 0) (with_new br (constraint br.next Fails c ∷ []) (edge x r br.next ∷ []))
  -- 7: all, if it holds; some, if it fails: along an edge
  all_holds : {a b x y n r c : ℕ} → Says br a x Holds n → Is bk n (All r c) → Leads br b x r y →
      Extends bk br (step 7 a b) (with br (constraint y Holds c ∷ []) [])
  some_fails : {a b x y n r c : ℕ} → Says br a x Fails n → Is bk n (Exists r c) → Leads br b x r y →
      Extends bk br (step 7 a b) (with br (constraint y Fails c ∷ []) [])
  -- 8: typical, if it holds
  typical_holds : {a x n c : ℕ} → Says br a x Holds n → Is bk n (Typical c) →
      Extends bk br (step 8 a 0) (with br (constraint x Holds c ∷ constraint x Bars c ∷ []) [])
  -- 10: admits: to a new label, which is better, is in the concept and has no better element in it
  admits : {a x c : ℕ} → Says br a x Admits c →
      Extends bk br (step 10 a 0) (with_new br (constraint br.next Holds c ∷ constraint br.next Bars c ∷ []) (edge x better_role br.next ∷ []))
  -- 11: bars: along an edge to a better element
  bars : {a b x y c : ℕ} → Says br a x Bars c → Leads br b x better_role y →
      Extends bk br (step 11 a b) (with br (constraint y Fails c ∷ constraint y Bars c ∷ []) [])

-- rules that split a branch: the step, and the two branches
pub data Splits (bk : Book) (br : Branch) : Step → Branch → Branch → Type 0 where
  -- 2: a live inclusion, at a label of the branch
  inclusion : {a x c d : ℕ} → Live bk a (Inclusion c d) → x < br.next →
      Splits bk br (step 2 a x) (with br (constraint x Fails c ∷ []) []) (with br (constraint x Holds d ∷ []) [])
  -- 5: or, if it holds; and, if it fails
  or_holds : {a x n c d : ℕ} → Says br a x Holds n → Is bk n (Or c d) →
      Splits bk br (step 5 a 0) (with br (constraint x Holds c ∷ []) []) (with br (constraint x Holds d ∷ []) [])
  and_fails : {a x n c d : ℕ} → Says br a x Fails n → Is bk n (And c d) →
      Splits bk br (step 5 a 0) (with br (constraint x Fails c ∷ []) []) (with br (constraint x Fails d ∷ []) [])
  -- 9: typical, if it fails
  typical_fails : {a x n c : ℕ} → Says br a x Fails n → Is bk n (Typical c) →
      Splits bk br (step 9 a 0) (with br (constraint x Fails c ∷ []) []) (with br (constraint x Admits c ∷ []) [])

-- rules that close a branch: the step
pub data Closes (bk : Book) (br : Branch) : Step → Type 0 where
  -- 12: the two constraints contradict each other
  holds_and_fails : {a b x n : ℕ} → Says br a x Holds n → Says br b x Fails n → Closes bk br (step 12 a b)
  bars_and_admits : {a b x n : ℕ} → Says br a x Bars n → Says br b x Admits n → Closes bk br (step 12 a b)
  -- 13: bottom, if it holds; top, if it fails
  bottom_holds : {a x n : ℕ} → Says br a x Holds n → Is bk n Bottom → Closes bk br (step 13 a 0)
  top_fails : {a x n : ℕ} → Says br a x Fails n → Is bk n Top → Closes bk br (step 13 a 0)

-- no rule permits this step on the branch
pub record NoRule (bk : Book) (br : Branch) (s : Step) : Type 0 where
  pub extends : (b : Branch) → Extends bk br s b → ⊥
  pub splits : (left right : Branch) → Splits bk br s left right → ⊥
  pub closes : Closes bk br s → ⊥
