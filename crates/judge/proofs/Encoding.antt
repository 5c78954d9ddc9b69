-- The steps of a closed tableau within the limits are written in bytes. Assumes nothing.
use Rattle.std.proofs.Common.{◌≡◌, ℕ, zero, suc, ◌+◌, ◌*◌, ◌/◌, ◌%◌, ◌<◌, ◌≤◌, List, [], ◌∷◌, ◌++◌, length, get_or, drop, sym, refl, ap, ◌∙◌, arith, lit<, lit≤, length-append}
use Rattle.std.specs.List.{AllByRecursion}
use Rattle.std.proofs.lemmas.List.{get_or-drop}
use Rattle.std.proofs.ByRecursion.{All-append}
use Rattle.logic.specs.declared.tableau.Constraint.{Constraint}
use Rattle.logic.specs.declared.tableau.Edge.{Edge}
use Rattle.logic.specs.declared.tableau.Step.{Step}
use Rattle.logic.specs.Books.{Book}
use Rattle.logic.specs.Lawful.{WellFormed}
use Rattle.logic.specs.Satisfaction.{Live}
use Rattle.logic.specs.Branches.{Branch, start, with, with_new}
use Rattle.logic.specs.Rules.{step, Extends, fact, role_fact, not_holds, not_fails, and_holds, or_fails, some_holds, all_fails, all_holds, some_fails, typical_holds, admits, bars, Splits, inclusion, or_holds, and_fails, typical_fails, Closes, holds_and_fails, bars_and_admits, bottom_holds, top_fails}
use Rattle.logic.specs.Tableaux.{Closed, close, extend, split, writing}
use Rattle.logic.specs.Limits.{AfterEachStep, FewLabels}
use Rattle.logic.specs.Bytes.{u16_at}
use Rattle.judge.specs.Steps.{step_at, first_steps, decoded, encoded, Bytes}
use Rattle.judge.specs.Laws.{TableauxHaveBytes}
use Rattle.judge.proofs.Agreeing.{live_within}

encoded_length : (ss : List Step) → length (encoded ss) ≡ 5 * length ss
encoded_length [] = refl
encoded_length (s ∷ ss) = omega (arith, encoded_length ss)

-- the steps after the first
later_byte : (bs : List ℕ) (i k : ℕ) → get_or bs (5 * suc i + k) 0 ≡ get_or (drop 5 bs) (5 * i + k) 0
later_byte bs i k =
    let e : 5 * suc i + k ≡ 5 + (5 * i + k) = omega arith in
    ap (λ n. get_or bs n 0) e ∙ sym (get_or-drop 5 bs (5 * i + k) 0)

later_pair : (bs : List ℕ) (i k : ℕ) → u16_at bs (5 * suc i + k) ≡ u16_at (drop 5 bs) (5 * i + k)
later_pair bs i k =
    let e : 5 * suc i + k + 1 ≡ 5 * suc i + (k + 1) = omega arith in
    let d : 5 * i + (k + 1) ≡ 5 * i + k + 1 = omega arith in
    let next : get_or bs (5 * suc i + k + 1) 0 ≡ get_or (drop 5 bs) (5 * i + k + 1) 0 = ap (λ n. get_or bs n 0) e ∙ later_byte bs i (k + 1) ∙ ap (λ n. get_or (drop 5 bs) n 0) d in
    λ j. later_byte bs i k j + 256 * next j

later : (bs : List ℕ) (i : ℕ) → step_at bs (suc i) ≡ step_at (drop 5 bs) i
later bs i =
    let e : 5 * suc i ≡ 5 * suc i + 0 = omega arith in
    let d : 5 * i + 0 ≡ 5 * i = omega arith in
    let op : get_or bs (5 * suc i) 0 ≡ get_or (drop 5 bs) (5 * i) 0 = ap (λ n. get_or bs n 0) e ∙ later_byte bs i 0 ∙ ap (λ n. get_or (drop 5 bs) n 0) d in
    λ j. step (op j) (later_pair bs i 1 j) (later_pair bs i 3 j)

first_apart : (n : ℕ) (bs : List ℕ) → first_steps (suc n) bs ≡ step_at bs 0 ∷ first_steps n (drop 5 bs)
first_apart zero bs = refl
first_apart (suc n) bs = λ i. first_apart n bs i ++ later bs n i ∷ []

-- an operand from its two bytes
operand_is : (a : ℕ) → a % 256 + 256 * (a / 256) ≡ a
operand_is a = omega arith

first_encoded : (ss : List Step) → first_steps (length ss) (encoded ss) ≡ ss
first_encoded [] = refl
first_encoded (s ∷ ss) =
    first_apart (length ss) (encoded (s ∷ ss))
    ∙ (λ i. step s.op (operand_is s.a i) (operand_is s.b i) ∷ first_encoded ss i)

read_back : (ss : List Step) → decoded (encoded ss) ≡ ss
read_back ss =
    let n : length (encoded ss) / 5 ≡ length ss = (let e = encoded_length ss in omega arith) in
    ap (λ k. first_steps k (encoded ss)) n ∙ first_encoded ss

-- numbers that fit their bytes
abbrev Small : Step → Type 0
Small s = (s.op < 256) × (s.a < 65536) × (s.b < 65536)

small_bytes : (ss : List Step) → AllByRecursion Small ss → Bytes (encoded ss)
small_bytes [] h = tt
small_bytes (s ∷ ss) h =
    let a : s.a < 65536 = h.0.1 in
    let b : s.b < 65536 = h.0.2 in
    (h.0.0, (omega arith, (omega arith, (omega arith, (omega arith, small_bytes ss h.1)))))

-- a branch after k steps
record Bounded (k : ℕ) (br : Branch) : Type 0 where
  constraints : length br.constraints ≤ 2 * k
  edges : length br.edges ≤ k

bounded : (k : ℕ) (br : Branch) (cs : List Constraint) (es : List Edge) → Bounded k br → length cs ≤ 2 → length es ≤ 1 → Bounded (suc k) (with br cs es) × Bounded (suc k) (with_new br cs es)
bounded k br cs es h hc he =
    let lc : length br.constraints ≤ 2 * k = h.constraints in
    let le : length br.edges ≤ k = h.edges in
    let c : length (br.constraints ++ cs) ≤ 2 * suc k = omega (arith, length-append br.constraints cs) in
    let e : length (br.edges ++ es) ≤ suc k = omega (arith, length-append br.edges es) in
    (record { constraints = c; edges = e }, record { constraints = c; edges = e })

module _ (bk : Book) (formed : WellFormed bk) where
  grows : {br b : Branch} {s : Step} (k : ℕ) → Bounded k br → Extends bk br s b → Bounded (suc k) b
  grows k h (fact live) = (bounded k _ _ _ h (lit≤ tt) (lit≤ tt)).0
  grows k h (role_fact live) = (bounded k _ _ _ h (lit≤ tt) (lit≤ tt)).0
  grows k h (not_holds says at) = (bounded k _ _ _ h (lit≤ tt) (lit≤ tt)).0
  grows k h (not_fails says at) = (bounded k _ _ _ h (lit≤ tt) (lit≤ tt)).0
  grows k h (and_holds says at) = (bounded k _ _ _ h (lit≤ tt) (lit≤ tt)).0
  grows k h (or_fails says at) = (bounded k _ _ _ h (lit≤ tt) (lit≤ tt)).0
  grows k h (some_holds says at) = (bounded k _ _ _ h (lit≤ tt) (lit≤ tt)).1
  grows k h (all_fails says at) = (bounded k _ _ _ h (lit≤ tt) (lit≤ tt)).1
  grows k h (all_holds says at leads) = (bounded k _ _ _ h (lit≤ tt) (lit≤ tt)).0
  grows k h (some_fails says at leads) = (bounded k _ _ _ h (lit≤ tt) (lit≤ tt)).0
  grows k h (typical_holds says at) = (bounded k _ _ _ h (lit≤ tt) (lit≤ tt)).0
  grows k h (admits says) = (bounded k _ _ _ h (lit≤ tt) (lit≤ tt)).1
  grows k h (bars says leads) = (bounded k _ _ _ h (lit≤ tt) (lit≤ tt)).0

  forks : {br l r : Branch} {s : Step} (k : ℕ) → Bounded k br → Splits bk br s l r → Bounded (suc k) l × Bounded (suc k) r
  forks k h (inclusion live within) = ((bounded k _ _ _ h (lit≤ tt) (lit≤ tt)).0, (bounded k _ _ _ h (lit≤ tt) (lit≤ tt)).0)
  forks k h (or_holds says at) = ((bounded k _ _ _ h (lit≤ tt) (lit≤ tt)).0, (bounded k _ _ _ h (lit≤ tt) (lit≤ tt)).0)
  forks k h (and_fails says at) = ((bounded k _ _ _ h (lit≤ tt) (lit≤ tt)).0, (bounded k _ _ _ h (lit≤ tt) (lit≤ tt)).0)
  forks k h (typical_fails says at) = ((bounded k _ _ _ h (lit≤ tt) (lit≤ tt)).0, (bounded k _ _ _ h (lit≤ tt) (lit≤ tt)).0)

  module _ (k : ℕ) (few : k ≤ 8192) (br : Branch) (h : Bounded k br) (labels : br.next ≤ 256) where
    -- numbers of constraints, edges, entries and labels are small
    by_constraint : (a : ℕ) → a < length br.constraints → a < 65536
    by_constraint a l = let c : length br.constraints ≤ 2 * k = h.constraints in omega arith

    by_edge : (b : ℕ) → b < length br.edges → b < 65536
    by_edge b l = let c : length br.edges ≤ k = h.edges in omega arith

    by_entry : {a : ℕ} (e : _) → Live bk a e → a < 65536
    by_entry {a} e live = let c : length bk.entries ≤ 256 = formed.few_entries in let l = live_within bk a e live in omega arith

    by_label : (b : ℕ) → b < br.next → b < 65536
    by_label b l = omega arith

    extends_small : {b : Branch} {s : Step} → Extends bk br s b → Small s
    extends_small (fact live) = (lit< tt, by_entry _ live, lit< tt)
    extends_small (role_fact live) = (lit< tt, by_entry _ live, lit< tt)
    extends_small (not_holds says at) = (lit< tt, by_constraint _ says.within, lit< tt)
    extends_small (not_fails says at) = (lit< tt, by_constraint _ says.within, lit< tt)
    extends_small (and_holds says at) = (lit< tt, by_constraint _ says.within, lit< tt)
    extends_small (or_fails says at) = (lit< tt, by_constraint _ says.within, lit< tt)
    extends_small (some_holds says at) = (lit< tt, by_constraint _ says.within, lit< tt)
    extends_small (all_fails says at) = (lit< tt, by_constraint _ says.within, lit< tt)
    extends_small (all_holds says at leads) = (lit< tt, by_constraint _ says.within, by_edge _ leads.within)
    extends_small (some_fails says at leads) = (lit< tt, by_constraint _ says.within, by_edge _ leads.within)
    extends_small (typical_holds says at) = (lit< tt, by_constraint _ says.within, lit< tt)
    extends_small (admits says) = (lit< tt, by_constraint _ says.within, lit< tt)
    extends_small (bars says leads) = (lit< tt, by_constraint _ says.within, by_edge _ leads.within)

    splits_small : {l r : Branch} {s : Step} → Splits bk br s l r → Small s
    splits_small (inclusion live within) = (lit< tt, by_entry _ live, by_label _ within)
    splits_small (or_holds says at) = (lit< tt, by_constraint _ says.within, lit< tt)
    splits_small (and_fails says at) = (lit< tt, by_constraint _ says.within, lit< tt)
    splits_small (typical_fails says at) = (lit< tt, by_constraint _ says.within, lit< tt)

    closes_small : {s : Step} → Closes bk br s → Small s
    closes_small (holds_and_fails p q) = (lit< tt, by_constraint _ p.within, by_constraint _ q.within)
    closes_small (bars_and_admits p q) = (lit< tt, by_constraint _ p.within, by_constraint _ q.within)
    closes_small (bottom_holds says at) = (lit< tt, by_constraint _ says.within, lit< tt)
    closes_small (top_fails says at) = (lit< tt, by_constraint _ says.within, lit< tt)

  small : {br : Branch} (t : Closed bk br) (j k : ℕ) → Bounded k br → br.next ≤ 256 → k + length (writing t) ≤ 8192 → AfterEachStep FewLabels j t → AllByRecursion Small (writing t)
  small (close r) j k h l few f = (closes_small k (omega arith) _ h l r, tt)
  small (extend r t) j k h l few f =
      (extends_small k (omega arith) _ h l r, small t j (suc k) (grows k h r) f.0 (omega arith) f.1)
  small (split r t u) j k h l few f =
      let n : length (writing t ++ writing u) ≡ length (writing t) + length (writing u) = length-append (writing t) (writing u) in
      let b = forks k h r in
      (splits_small k (omega arith) _ h l r, All-append Small (writing t) (writing u) (small t (suc j) (suc k) b.0 f.0 (omega arith) f.1) (small u j (suc k) b.1 f.2 (omega arith) f.3))

pub tableaux_have_bytes : TableauxHaveBytes
tableaux_have_bytes bk formed ls t limits fits =
    let first : Bounded 0 start = record { constraints = lit≤ tt; edges = lit≤ tt } in
    let few : length (writing t) ≤ 8192 = limits.steps in
    let n : length (encoded (writing t)) ≡ 5 * length (writing t) = encoded_length (writing t) in
    let back = read_back (writing t) in
    record {
      bytes = small_bytes (writing t) (small bk formed t 0 0 first (lit≤ tt) (omega arith) limits.labels);
      read_back = back;
      refutes = record { tableau = t; whole = record { whole = omega arith; few = omega arith }; written = sym back; limits = limits; fits = fits };
    }
