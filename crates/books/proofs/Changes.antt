-- A book after a change, by its two lists. Assumes nothing.
use Rattle.std.proofs.Common.{◌≡◌, Bool, true, List, [], ◌∷◌, ◌++◌, sym, ap, ◌∙◌}
use Rattle.std.proofs.lemmas.List.{map-append}
use Rattle.logic.specs.declared.records.Node.{Node}
use Rattle.logic.specs.declared.records.Entry.{Entry}
use Rattle.logic.specs.declared.records.StoredEntry.{StoredEntry}
use Rattle.logic.specs.Concepts.{read, concepts, plain, plain_marks}
use Rattle.logic.specs.Books.{Book, with_node, with_entry}
use Rattle.logic.proofs.Reading.{plain_marks-push}
use Rattle.books.specs.declared.marked.MarkedNode.{MarkedNode}
use Rattle.books.specs.Marks.{nodes_of, marks_of_nodes}

abbrev book : List Node → List StoredEntry → Book
book ns ls = record { nodes = ns; entries = ls }

pub with_node_is : (ns ns' : List Node) (ls : List StoredEntry) (n m : Node) → ns' ≡ ns ++ n ∷ [] → n ≡ m → book ns' ls ≡ with_node (book ns ls) m
with_node_is ns ns' ls n m e is = ap (λ xs. book xs ls) (e ∙ ap (λ x. ns ++ x ∷ []) is)

pub with_entry_is : (ns : List Node) (ls ls' : List StoredEntry) (l : StoredEntry) (x e : Entry) → ls' ≡ ls ++ l ∷ [] → l ≡ record { entry = x; live = true } → x ≡ e → book ns ls' ≡ with_entry (book ns ls) e
with_entry_is ns ls ls' l x e more is same =
    ap (book ns) (more ∙ ap (λ y. ls ++ y ∷ []) (is ∙ ap (λ y. record { entry = y; live = true }) same))

-- the marks of one node more
pub marks_more : (ns ns' : List Node) (ms ms' : List Bool) (n : Node) (m : Bool) → ms ≡ plain_marks ns → ns' ≡ ns ++ n ∷ [] → ms' ≡ ms ++ m ∷ [] → m ≡ plain (read (concepts ns) n) → ms' ≡ plain_marks ns'
marks_more ns ns' ms ms' n m marked nodes marks_of_nodes mark =
    marks_of_nodes ∙ (λ i. marked i ++ mark i ∷ []) ∙ sym (plain_marks-push ns n) ∙ sym (ap plain_marks nodes)

-- the nodes and the marks of one marked node more
module _ (ms ms' : List MarkedNode) (m : MarkedNode) (grown : ms' ≡ ms ++ m ∷ []) where
  pub bare_more : nodes_of ms' ≡ nodes_of ms ++ m.node ∷ []
  bare_more = ap nodes_of grown ∙ map-append (λ n. n.node) ms (m ∷ [])

  pub marked_more : marks_of_nodes ms ≡ plain_marks (nodes_of ms) → m.plain ≡ plain (read (concepts (nodes_of ms)) m.node) → marks_of_nodes ms' ≡ plain_marks (nodes_of ms')
  marked_more marked mark =
      marks_more (nodes_of ms) (nodes_of ms') (marks_of_nodes ms) (marks_of_nodes ms') m.node m.plain marked bare_more (ap marks_of_nodes grown ∙ map-append (λ n. n.plain) ms (m ∷ [])) mark
