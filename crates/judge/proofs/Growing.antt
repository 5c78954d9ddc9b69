-- A branch grows by at most two constraints and one edge in a step. Assumes nothing.
use Rattle.std.proofs.Common.{◌≡◌, ℕ, ◌+◌, ◌*◌, ◌≤◌, List, [], ◌∷◌, ◌++◌, length, arith}
use Rattle.std.proofs.lemmas.List.{length-append, length_push}
use Rattle.logic.specs.declared.tableau.Constraint.{Constraint}
use Rattle.logic.specs.declared.tableau.Edge.{Edge}
use Rattle.logic.specs.declared.tableau.Step.{Step}
use Rattle.logic.specs.Books.{Book}
use Rattle.logic.specs.Branches.{Branch}
use Rattle.logic.specs.Limits.{Lengths}
use Rattle.logic.specs.Rules.{Extends, fact, role_fact, not_holds, not_fails, and_holds, or_fails, some_holds, all_fails, all_holds, some_fails, typical_holds, admits, bars, Splits, inclusion, or_holds, and_fails, typical_fails}
use Rattle.judge.specs.Progress.{Underway, begun, extended, divided, resumed}

-- what a branch may have after so many steps
abbrev pub Few : ℕ → Branch → Type 0
Few n br = (length br.constraints ≤ 2 * n) × (length br.edges ≤ n)

few_with : (n m : ℕ) (br : Branch) (cs : List Constraint) (es : List Edge) (x : ℕ) → m ≡ n + 1 → length cs ≤ 2 → length es ≤ 1 → Few n br → Few m (record { constraints = br.constraints ++ cs; edges = br.edges ++ es; next = x })
few_with n m br cs es x e h k f =
    (omega (arith, f.0, length-append br.constraints cs), omega (arith, f.1, length-append br.edges es))

few_more : (n m : ℕ) (br : Branch) → m ≡ n + 1 → Few n br → Few m br
few_more n m br e f = (omega (arith, f.0), omega (arith, f.1))

module _ (bk : Book) (n m : ℕ) (e : m ≡ n + 1) where
  more : (br : Branch) (cs : List Constraint) (es : List Edge) (x : ℕ) → length cs ≤ 2 → length es ≤ 1 → Few n br → Few m (record { constraints = br.constraints ++ cs; edges = br.edges ++ es; next = x })
  more br cs es x h k f = few_with n m br cs es x e h k f

  extends_few : {br b : Branch} {s : Step} → Extends bk br s b → Few n br → Few m b
  extends_few {br = br} (fact live) f = more br _ _ 0 (omega arith) (omega arith) f
  extends_few {br = br} (role_fact live) f = more br _ _ 0 (omega arith) (omega arith) f
  extends_few {br = br} (not_holds says is) f = more br _ _ 0 (omega arith) (omega arith) f
  extends_few {br = br} (not_fails says is) f = more br _ _ 0 (omega arith) (omega arith) f
  extends_few {br = br} (and_holds says is) f = more br _ _ 0 (omega arith) (omega arith) f
  extends_few {br = br} (or_fails says is) f = more br _ _ 0 (omega arith) (omega arith) f
  extends_few {br = br} (some_holds says is) f = more br _ _ 0 (omega arith) (omega arith) f
  extends_few {br = br} (all_fails says is) f = more br _ _ 0 (omega arith) (omega arith) f
  extends_few {br = br} (all_holds says is leads) f = more br _ _ 0 (omega arith) (omega arith) f
  extends_few {br = br} (some_fails says is leads) f = more br _ _ 0 (omega arith) (omega arith) f
  extends_few {br = br} (typical_holds says is) f = more br _ _ 0 (omega arith) (omega arith) f
  extends_few {br = br} (admits says) f = more br _ _ 0 (omega arith) (omega arith) f
  extends_few {br = br} (bars says leads) f = more br _ _ 0 (omega arith) (omega arith) f

  splits_few : {br l r : Branch} {s : Step} → Splits bk br s l r → Few n br → Few m l × Few m r
  splits_few {br = br} (inclusion live within) f = (more br _ _ 0 (omega arith) (omega arith) f, more br _ _ 0 (omega arith) (omega arith) f)
  splits_few {br = br} (or_holds says is) f = (more br _ _ 0 (omega arith) (omega arith) f, more br _ _ 0 (omega arith) (omega arith) f)
  splits_few {br = br} (and_fails says is) f = (more br _ _ 0 (omega arith) (omega arith) f, more br _ _ 0 (omega arith) (omega arith) f)
  splits_few {br = br} (typical_fails says is) f = (more br _ _ 0 (omega arith) (omega arith) f, more br _ _ 0 (omega arith) (omega arith) f)

-- the pending branches
abbrev AllFew : ℕ → List Branch → Type 0
AllFew n [] = Unit {0}
AllFew n (b ∷ bs) = Few n b × AllFew n bs

all_more : (n m : ℕ) (bs : List Branch) → m ≡ n + 1 → AllFew n bs → AllFew m bs
all_more n m [] e f = tt
all_more n m (b ∷ bs) e f = (few_more n m b e f.0, all_more n m bs e f.1)

all_few : {bk : Book} {ls : Lengths} {ss : List Step} {br : Branch} {ps : List Branch} → Underway bk ls ss br ps → Few (length ss) br × AllFew (length ss) ps
all_few begun = ((omega arith, omega arith), tt)
all_few {bk = bk} (extended {ss = ss} {ps = ps} {s = s} u x room) =
    let f = all_few u in
    let e : length (ss ++ s ∷ []) ≡ length ss + 1 = length_push ss s in
    (extends_few bk (length ss) _ e x f.0, all_more (length ss) _ ps e f.1)
all_few {bk = bk} (divided {ss = ss} {ps = ps} {s = s} u x room) =
    let f = all_few u in
    let e : length (ss ++ s ∷ []) ≡ length ss + 1 = length_push ss s in
    let both = splits_few bk (length ss) _ e x f.0 in
    (both.0, (both.1, all_more (length ss) _ ps e f.1))
all_few (resumed {ss = ss} {b = b} {ps = ps} {s = s} u x) =
    let f = all_few u in
    let e : length (ss ++ s ∷ []) ≡ length ss + 1 = length_push ss s in
    (few_more (length ss) _ b e f.1.0, all_more (length ss) _ ps e f.1.1)

-- the branch that is worked
pub few_underway : {bk : Book} {ls : Lengths} {ss : List Step} {br : Branch} {ps : List Branch} → Underway bk ls ss br ps → Few (length ss) br
few_underway u = (all_few u).0
