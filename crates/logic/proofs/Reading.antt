-- The concepts of a list of nodes: how many there are, what one node more adds, what stays, and what
-- the concept of a node is made of. Assumes nothing.
use Rattle.std.proofs.Common.{◌≡◌, ℕ, zero, suc, ◌+◌, ◌<◌, true, ltb, List, [], ◌∷◌, ◌++◌, map, length, get_or, sym, refl, ap, ◌∙◌, subst, zero-add, arith}
use Rattle.std.proofs.lemmas.List.{length_push, map-append, get_or_append_left, get_or_past, get_or_push}
use Rattle.std.proofs.lemmas.Bool.{and_parts, ltb-true}
use Rattle.logic.specs.declared.records.Node.{Node}
use Rattle.logic.specs.declared.records.Node.TheVariants as node
use Rattle.logic.specs.Concepts.{Concept, not, and, or, all, some, typical, bottom, of, read, concepts_after, concepts, plain, plain_marks, is_typical}
use Rattle.logic.specs.Lawful.{node_operands_below}
use Rattle.logic.specs.Laws.{ConceptsStay}

read_on-append : (cs : List Concept) (ns ms : List Node) → concepts_after cs (ns ++ ms) ≡ concepts_after (concepts_after cs ns) ms
read_on-append cs [] ms = refl
read_on-append cs (n ∷ ns) ms = read_on-append (cs ++ read cs n ∷ []) ns ms

-- one node more adds one concept at the end
pub concepts-push : (ns : List Node) (n : Node) → concepts (ns ++ n ∷ []) ≡ concepts ns ++ read (concepts ns) n ∷ []
concepts-push ns n = read_on-append [] ns (n ∷ [])

length-read_on : (cs : List Concept) (ns : List Node) → length (concepts_after cs ns) ≡ length cs + length ns
length-read_on cs [] = omega arith
length-read_on cs (n ∷ ns) = omega (arith, length-read_on (cs ++ read cs n ∷ []) ns, length_push cs (read cs n))

-- there are as many concepts as nodes
pub length-concepts : (ns : List Node) → length (concepts ns) ≡ length ns
length-concepts ns = length-read_on [] ns ∙ zero-add (length ns)

-- the concepts so far stay
stays : (cs : List Concept) (ns : List Node) (i : ℕ) → i < length cs → of (concepts_after cs ns) i ≡ of cs i
stays cs [] i h = refl
stays cs (n ∷ ns) i h =
    let more = cs ++ read cs n ∷ [] in
    stays more ns i (omega (arith, length_push cs (read cs n))) ∙ get_or_append_left cs (read cs n ∷ []) bottom i h

pub concepts_stay : ConceptsStay
concepts_stay ns ms i h =
    ap (λ cs. of cs i) (read_on-append [] ns ms) ∙ stays (concepts ns) ms i (omega (arith, length-concepts ns))

-- the mark of one node more
pub plain_marks-push : (ns : List Node) (n : Node) → plain_marks (ns ++ n ∷ []) ≡ plain_marks ns ++ plain (read (concepts ns) n) ∷ []
plain_marks-push ns n = ap (map plain) (concepts-push ns n) ∙ map-append plain (concepts ns) (read (concepts ns) n ∷ [])

-- what the marks say at a place, past the end too
pub plain_mark_at : (cs : List Concept) (i : ℕ) → get_or (map plain cs) i true ≡ plain (of cs i)
plain_mark_at [] i = refl
plain_mark_at (c ∷ cs) zero = refl
plain_mark_at (c ∷ cs) (suc i) = plain_mark_at cs i

-- whether a concept is typicality of something depends on its node alone
typical_read : (cs ds : List Concept) (n : Node) → is_typical (read cs n) ≡ is_typical (read ds n)
typical_read cs ds node.Top = refl
typical_read cs ds node.Bottom = refl
typical_read cs ds (node.Name a) = refl
typical_read cs ds (node.Not c) = refl
typical_read cs ds (node.And c d) = refl
typical_read cs ds (node.Or c d) = refl
typical_read cs ds (node.All r c) = refl
typical_read cs ds (node.Exists r c) = refl
typical_read cs ds (node.Typical c) = refl
typical_read cs ds node.Absent = refl

typical_from : (cs ds : List Concept) (ns : List Node) (i : ℕ) → is_typical (of (concepts_after cs ns) (length cs + i)) ≡ is_typical (read ds (get_or ns i node.Absent))
typical_from cs ds [] i = ap is_typical (get_or_past cs (length cs + i) bottom (omega arith))
typical_from cs ds (n ∷ ns) zero =
    let more = cs ++ read cs n ∷ [] in
    let here : of (concepts_after more ns) (length cs + zero) ≡ read cs n = stays more ns (length cs + zero) (omega (arith, length_push cs (read cs n))) ∙ get_or_push cs (read cs n) bottom (length cs + zero) (omega arith) in
    ap is_typical here ∙ typical_read cs ds n
typical_from cs ds (n ∷ ns) (suc i) =
    let more = cs ++ read cs n ∷ [] in
    let place : length cs + suc i ≡ length more + i = omega (arith, length_push cs (read cs n)) in
    ap (λ k. is_typical (of (concepts_after more ns) k)) place ∙ typical_from more ds ns i

pub typical_at : (ds : List Concept) (ns : List Node) (i : ℕ) → is_typical (of (concepts ns) i) ≡ is_typical (read ds (get_or ns i node.Absent))
typical_at ds ns i = ap (λ k. is_typical (of (concepts ns) k)) (sym (zero-add i)) ∙ typical_from [] ds ns i

-- two lists of concepts that agree below k read a node alike whose operands are below k
read_alike : (k : ℕ) (cs ds : List Concept) → ((i : ℕ) → i < k → of cs i ≡ of ds i) → (n : Node) → node_operands_below k n ≡ true → read cs n ≡ read ds n
read_alike k cs ds agree node.Top h = refl
read_alike k cs ds agree node.Bottom h = refl
read_alike k cs ds agree (node.Name a) h = refl
read_alike k cs ds agree (node.Not c) h = ap not (agree c (ltb-true c k h))
read_alike k cs ds agree (node.And c d) h = let p = and_parts (ltb c k) (ltb d k) h in λ i. and (agree c (ltb-true c k p.0) i) (agree d (ltb-true d k p.1) i)
read_alike k cs ds agree (node.Or c d) h = let p = and_parts (ltb c k) (ltb d k) h in λ i. or (agree c (ltb-true c k p.0) i) (agree d (ltb-true d k p.1) i)
read_alike k cs ds agree (node.All r c) h = ap (all r) (agree c (ltb-true c k h))
read_alike k cs ds agree (node.Exists r c) h = ap (some r) (agree c (ltb-true c k h))
read_alike k cs ds agree (node.Typical c) h = ap typical (agree c (ltb-true c k h))
read_alike k cs ds agree node.Absent h = refl

concept_from : (cs : List Concept) (ns : List Node) (i : ℕ) → node_operands_below (length cs + i) (get_or ns i node.Absent) ≡ true → of (concepts_after cs ns) (length cs + i) ≡ read (concepts_after cs ns) (get_or ns i node.Absent)
concept_from cs [] i h = get_or_past cs (length cs + i) bottom (omega arith)
concept_from cs (n ∷ ns) zero h =
    let more = cs ++ read cs n ∷ [] in
    stays more ns (length cs + zero) (omega (arith, length_push cs (read cs n)))
    ∙ get_or_push cs (read cs n) bottom (length cs + zero) (omega arith)
    ∙ read_alike (length cs + zero) cs (concepts_after more ns) (λ i l. sym (stays cs (n ∷ ns) i (omega arith))) n h
concept_from cs (n ∷ ns) (suc i) h =
    let more = cs ++ read cs n ∷ [] in
    let place : length cs + suc i ≡ length more + i = omega (arith, length_push cs (read cs n)) in
    ap (of (concepts_after more ns)) place ∙ concept_from more ns i (subst (λ k. node_operands_below k (get_or ns i node.Absent) ≡ true) place h)

-- the concept of node i is read over the concepts of all nodes, where its operands are earlier nodes
pub concept_at : (ns : List Node) (i : ℕ) → node_operands_below i (get_or ns i node.Absent) ≡ true → of (concepts ns) i ≡ read (concepts ns) (get_or ns i node.Absent)
concept_at ns i h =
    let z = sym (zero-add i) in
    ap (of (concepts ns)) z ∙ concept_from [] ns i (subst (λ k. node_operands_below k (get_or ns i node.Absent) ≡ true) z h)
