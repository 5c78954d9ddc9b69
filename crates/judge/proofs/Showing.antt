-- The working lists show where an effect goes. Assumes nothing.
use Rattle.std.proofs.Common.{◌≡◌, ℕ, ◌+◌, ◌<◌, ◌≤◌, List, [], ◌∷◌, ◌++◌, map, reverse, length, get_or, take, drop, replicate, Some, Ok, Err, Result, sym, refl, ap, ◌∙◌, subst, ⊎_elim, arith}
use mathlib.Core.List.{reverse-cons}
use Rattle.std.proofs.lemmas.List.{length-append, length_push, length-replicate, length-reverse, length-map, take_at, take_all, take-append-le, get_or_push, append-nil}
use Rattle.std.proofs.lemmas.Bool.{cases_lt, cond-true, cond-false, lt-ltb, le-ltb}
use Rattle.logic.specs.declared.tableau.Constraint.{Constraint}
use Rattle.logic.specs.declared.tableau.Edge.{Edge}
use Rattle.logic.specs.Branches.{Branch, with}
use Rattle.logic.specs.Limits.{Lengths}
use Rattle.judge.specs.declared.working.Split.{Split}
use Rattle.judge.specs.declared.working.Counts.{Counts}
use Rattle.judge.specs.declared.step_fault.StepFault.{StepFault}
use Rattle.judge.specs.declared.step_fault.StepFault.TheVariants.{Full}
use Rattle.judge.specs.Blanks.{no_constraint, no_edge, no_split, lengths}
use Rattle.judge.specs.Lists.{Blanked, Listed}
use Rattle.judge.specs.Progress.{Room}
use Rattle.judge.specs.WorkingLists.{Counted, PendingSplit, second_branch, split_record, Prefixes, Represents, labelled, resumed_state, ReachesState}
use Rattle.judge.proofs.Listing.{listed_append, listed_cut}

-- fronts stay fronts of what grows
fronts_with : (ps : List PendingSplit) (br : Branch) (cs : List Constraint) (es : List Edge) (n : ℕ) → br.next ≤ n → Prefixes ps br → Prefixes ps (record { constraints = br.constraints ++ cs; edges = br.edges ++ es; next = n })
fronts_with [] br cs es n h f = tt
fronts_with (p ∷ ps) br cs es n h f =
    let a : length p.before.constraints < length br.constraints = f.0 in
    let b : length p.before.edges ≤ length br.edges = f.2 in
    let d : p.before.next ≤ br.next = f.4 in
    (omega (arith, length-append br.constraints cs), take-append-le (length p.before.constraints) br.constraints cs (omega arith) ∙ f.1, omega (arith, length-append br.edges es), take-append-le (length p.before.edges) br.edges es (omega arith) ∙ f.3, omega arith, f.5)

-- a branch of which so much is in use
pub some_branch : (at : Counts) → (br : Branch) × Counted at br
some_branch at =
    (record { constraints = replicate at.constraints no_constraint; edges = replicate at.edges no_edge; next = at.labels }, record { constraints = length-replicate at.constraints no_constraint; edges = length-replicate at.edges no_edge; labels = refl })

-- a branch with one label more
abbrev pub next_label : Branch → Branch
next_label br = record { constraints = br.constraints; edges = br.edges; next = br.next + 1 }

module _ (br : Branch) (ps : List PendingSplit) (at : Counts) (cs : List Constraint) (es : List Edge) (ss : List Split) (s : Represents br ps at cs es ss) where
  abbrev ls : Lengths
  ls = lengths cs es ss

  split_count : length ps ≡ at.splits
  split_count = sym (length-reverse (map split_record ps) ∙ length-map ps split_record) ∙ s.splits.count

  pub counted : Counted at br
  counted = record { constraints = s.constraints.count; edges = s.edges.count; labels = s.labels }

  -- what is shown has room
  pub shown_room : Room ls (length ps) br
  shown_room =
      let a : length br.constraints ≡ at.constraints = s.constraints.count in
      let b : length br.edges ≡ at.edges = s.edges.count in
      let d : length ps ≡ at.splits = split_count in
      let f : at.constraints ≤ length cs = s.constraints.fits in
      let g : at.edges ≤ length es = s.edges.fits in
      let h : at.splits ≤ length ss = s.splits.fits in
      let k : br.next ≡ at.labels = s.labels in
      let l : at.labels ≤ 256 = s.few in
      record { lists = record { constraints = omega arith; edges = omega arith; splits = omega arith }; labels = omega arith }

  -- one label more
  abbrev more : Counts
  more = record { constraints = at.constraints; edges = at.edges; splits = at.splits; labels = at.labels + 1 }

  shown_more : at.labels < 256 → Represents (next_label br) ps more cs es ss
  shown_more h =
      record {
        constraints = s.constraints;
        edges = s.edges;
        splits = s.splits;
        labels = ap (λ n. n + 1) s.labels;
        few = omega arith;
        prefixes = subst (λ b. Prefixes ps b) (λ i. record { constraints = append-nil br.constraints i; edges = append-nil br.edges i; next = br.next + 1 }) (fronts_with ps br [] [] (br.next + 1) (omega arith) s.prefixes);
      }

  pub label_more : (y : ℕ) (n : Counts) → ◌≡◌ {A = Result (ℕ × Counts) StepFault} (Ok (y, n)) (labelled at) → (y ≡ br.next) × Represents (next_label br) ps n cs es ss
  label_more y n e =
      ⊎_elim
      (λ (h : at.labels < 256).
      let p : ◌≡◌ {A = Result (ℕ × Counts) StepFault} (Ok (y, n)) (Ok (at.labels, more)) = e ∙ cond-true _ _ _ (lt-ltb at.labels 256 h) in
      let q : (y, n) ≡ (at.labels, more) = cc in
      (ap (λ (v : ℕ × Counts). v.0) q ∙ sym s.labels, subst (λ (v : ℕ × Counts). Represents (next_label br) ps v.1 cs es ss) (sym q) (shown_more h)))
      (λ (h : 256 ≤ at.labels).
      let p : ◌≡◌ {A = Result (ℕ × Counts) StepFault} (Ok (y, n)) (Err Full) = e ∙ cond-false _ _ _ (le-ltb at.labels 256 h) in
      let z : ◌≡◌ {A = ℕ} 0 1 = cc in absurd (omega arith))
      (cases_lt at.labels 256)

  module _ (xs : List Constraint) (ys : List Edge) where
    pub extend_ok : (cs' : List Constraint) (es' : List Edge) → at.constraints + length xs ≤ length cs → at.edges + length ys ≤ length es → cs' ≡ take at.constraints cs ++ (xs ++ drop (at.constraints + length xs) cs) → es' ≡ take at.edges es ++ (ys ++ drop (at.edges + length ys) es) → Represents (with br xs ys) ps (record { constraints = at.constraints + length xs; edges = at.edges + length ys; splits = at.splits; labels = at.labels }) cs' es' ss
    extend_ok cs' es' c e a b =
        record {
          constraints = listed_append no_constraint cs cs' at.constraints br.constraints xs c a s.constraints;
          edges = listed_append no_edge es es' at.edges br.edges ys e b s.edges;
          splits = s.splits;
          labels = s.labels;
          few = s.few;
          prefixes = fronts_with ps br xs ys br.next (omega arith) s.prefixes;
        }

  abbrev first_branch : Constraint → Branch
  first_branch x = with br (x ∷ []) []

  pub split_ok : (x y : Constraint) (cs' : List Constraint) (ss' : List Split) → at.splits + 1 ≤ length ss → at.constraints + 1 ≤ length cs → ss' ≡ take at.splits ss ++ (record { constraints = at.constraints; edges = at.edges; labels = at.labels; second = y } ∷ drop (at.splits + 1) ss) → cs' ≡ take at.constraints cs ++ (x ∷ drop (at.constraints + 1) cs) → Represents (first_branch x) (record { before = br; second = y } ∷ ps) (record { constraints = at.constraints + 1; edges = at.edges; splits = at.splits + 1; labels = at.labels }) cs' es ss'
  split_ok x y cs' ss' k h b a =
      let count : length br.constraints ≡ at.constraints = s.constraints.count in
      let edges : length br.edges ≡ at.edges = s.edges.count in
      let pushed : PendingSplit = record { before = br; second = y } in
      let old : Split = record { constraints = at.constraints; edges = at.edges; labels = at.labels; second = y } in
      let same : old ≡ split_record pushed = sym (λ i. record { constraints = count i; edges = edges i; labels = s.labels i; second = y }) in
      let listed = listed_append no_split ss ss' at.splits (reverse (map split_record ps)) (old ∷ []) k b s.splits in
      let few : br.next ≤ br.next = omega arith in
      record {
        constraints = listed_append no_constraint cs cs' at.constraints br.constraints (x ∷ []) h a s.constraints;
        edges = subst (λ v. Listed no_edge es at.edges v) (sym (append-nil br.edges)) s.edges;
        splits = subst (λ v. Listed no_split ss' (at.splits + 1) v) (ap (λ v. reverse (map split_record ps) ++ v ∷ []) same ∙ sym (reverse-cons (split_record pushed) (map split_record ps))) listed;
        labels = s.labels;
        few = s.few;
        prefixes = (omega (arith, length_push br.constraints x), take_at br.constraints (x ∷ []) _ refl, omega (arith, ap length (append-nil br.edges)), take_all (length br.edges) (br.edges ++ []) (omega (arith, ap length (append-nil br.edges))) ∙ append-nil br.edges, few, s.prefixes);
      }

  -- the latest split is the last record of the list
  module _ (left : ℕ) (last : left + 1 ≡ at.splits) where
    abbrev latest : Split
    latest = get_or ss left no_split

    latest_is : (p : PendingSplit) × (rest : List PendingSplit) × (ps ≡ p ∷ rest) × (latest ≡ split_record p)
    latest_is = go ps refl
      where
        go : (qs : List PendingSplit) → ps ≡ qs → (p : PendingSplit) × (rest : List PendingSplit) × (ps ≡ p ∷ rest) × (latest ≡ split_record p)
        go [] q =
            let z : at.splits ≡ 0 = sym split_count ∙ ap length q in
            absurd (omega arith)
        go (p ∷ rest) q =
            let before = reverse (map split_record rest) in
            let all : reverse (map split_record ps) ≡ before ++ split_record p ∷ [] = ap (λ v. reverse (map split_record v)) q ∙ reverse-cons (split_record p) (map split_record rest) in
            let n : length before + 1 ≡ at.splits = sym (length_push before (split_record p)) ∙ ap length (sym all) ∙ s.splits.count in
            (p, rest, q, s.splits.agree left (omega arith) ∙ ap (λ v. get_or v left no_split) all ∙ get_or_push before (split_record p) no_split left (omega arith))

    -- what is cut back was there
    latest_below : latest.constraints < at.constraints
    latest_below =
        let found = latest_is in
        let f = subst (λ v. Prefixes v br) found.2 s.prefixes in
        let a : length found.0.before.constraints < length br.constraints = f.0 in
        let c : latest.constraints ≡ length found.0.before.constraints = ap (λ (v : Split). v.constraints) found.3 in
        let count : length br.constraints ≡ at.constraints = s.constraints.count in
        omega arith

    -- there is room for its second alternative where the branch is cut back
    pub second_fits : (cs' : List Constraint) → length cs' ≡ length cs → latest.constraints + 1 ≤ length cs'
    second_fits cs' lc =
        let h : at.constraints ≤ length cs = s.constraints.fits in
        omega (arith, latest_below)

    pub close_back : (cs' cs'' : List Constraint) (es' : List Edge) (ss' : List Split) → length cs' ≡ length cs → length es' ≡ length es → length ss' ≡ length ss → Blanked no_split left at.splits ss ss' → Blanked no_constraint latest.constraints at.constraints cs cs' → Blanked no_edge latest.edges at.edges es es' → cs'' ≡ take latest.constraints cs' ++ (latest.second ∷ drop (latest.constraints + 1) cs') → ReachesState ls (λ n σ. Represents σ.branch σ.pending n cs'' es' ss') (resumed_state ps) (Ok (Some (record { constraints = latest.constraints + 1; edges = latest.edges; splits = left; labels = latest.labels })))
    close_back cs' cs'' es' ss' lc le ls' bs bc be put =
        let l = latest in
        let found = latest_is in
        let p = found.0 in
        let rest = found.1 in
        let is : l ≡ split_record p = found.3 in
        let f = subst (λ v. Prefixes v br) found.2 s.prefixes in
        let before = reverse (map split_record rest) in
        let c : l.constraints < at.constraints = latest_below in
        let fits : at.constraints ≤ length cs = s.constraints.fits in
        let d : l.edges ≤ at.edges =
        let x : l.edges ≡ length p.before.edges = ap (λ (v : Split). v.edges) is in
        let y : length p.before.edges ≤ length br.edges = f.2 in
        let z : length br.edges ≡ at.edges = s.edges.count in omega arith in
        let count : length before ≡ left =
        let k : length (p ∷ rest) ≡ at.splits = ap length (sym found.2) ∙ split_count in omega (arith, length-reverse (map split_record rest), length-map rest split_record, k) in
        let cut : take left (reverse (map split_record ps)) ≡ before =
        ap (λ v. take left (reverse (map split_record v))) found.2 ∙ ap (λ v. take left v) (reverse-cons (split_record p) (map split_record rest)) ∙ take_at before (split_record p ∷ []) left count in
        let cs-is : take l.constraints br.constraints ++ l.second ∷ [] ≡ p.before.constraints ++ p.second ∷ [] =
        ap (λ (v : Split). take v.constraints br.constraints ++ v.second ∷ []) is ∙ ap (λ v. v ++ p.second ∷ []) f.1 in
        let es-is : take l.edges br.edges ≡ p.before.edges ++ [] = ap (λ (v : Split). take v.edges br.edges) is ∙ f.3 ∙ sym (append-nil p.before.edges) in
        let labels : l.labels ≡ p.before.next = ap (λ (v : Split). v.labels) is in
        let few : p.before.next ≤ br.next = f.4 in
        let next : br.next ≡ at.labels = s.labels in
        let most : at.labels ≤ 256 = s.few in
        subst (λ v. ReachesState ls (λ n σ. Represents σ.branch σ.pending n cs'' es' ss') (resumed_state v) (Ok (Some (record { constraints = l.constraints + 1; edges = l.edges; splits = left; labels = l.labels })))) (sym found.2) (record {
          constraints = subst (λ v. Listed no_constraint cs'' (l.constraints + 1) v) cs-is (listed_append no_constraint cs' cs'' l.constraints (take l.constraints br.constraints) (l.second ∷ []) (omega arith) put (listed_cut no_constraint cs cs' l.constraints at.constraints br.constraints (omega arith) lc bc s.constraints));
          edges = subst (λ v. Listed no_edge es' l.edges v) es-is (listed_cut no_edge es es' l.edges at.edges br.edges d le be s.edges);
          splits = subst (λ v. Listed no_split ss' left v) cut (listed_cut no_split ss ss' left at.splits (reverse (map split_record ps)) (omega arith) ls' bs s.splits);
          labels = sym labels;
          few = omega arith;
          prefixes = fronts_with rest p.before (p.second ∷ []) [] p.before.next (omega arith) f.5;
        })

-- the second branch of the latest split has room
pub second_room : (br : Branch) (p : PendingSplit) (ps : List PendingSplit) (at : Counts) (cs : List Constraint) (es : List Edge) (ss : List Split) → Represents br (p ∷ ps) at cs es ss → Room (lengths cs es ss) (length ps) (second_branch p)
second_room br p ps at cs es ss s =
    let r = shown_room br (p ∷ ps) at cs es ss s in
    let f = s.prefixes in
    let a : length p.before.constraints < length br.constraints = f.0 in
    let b : length p.before.edges ≤ length br.edges = f.2 in
    let d : p.before.next ≤ br.next = f.4 in
    let x : length br.constraints ≤ length cs = r.lists.constraints in
    let y : length br.edges ≤ length es = r.lists.edges in
    let z : length (p ∷ ps) ≤ length ss = r.lists.splits in
    let l : br.next ≤ 256 = r.labels in
    let e : length (p.before.edges ++ []) ≡ length p.before.edges = ap length (append-nil p.before.edges) in
    record { lists = record { constraints = omega (arith, length_push p.before.constraints p.second); edges = omega arith; splits = omega arith }; labels = omega arith }
