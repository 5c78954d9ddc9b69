-- The concepts of ALC with typicality, and the concept of each node of a list.
-- Concept: the syntax. concepts: the concept of each node of a list. plain: no typicality occurs.
-- Assumes nothing.
use Rattle.std.specs.Prelude.{ℕ, Bool, true, false, ◌&&◌, List, [], ◌∷◌, ◌++◌, map, slice_index_or}
use Rattle.logic.specs.declared.records.Node.{Node}
use Rattle.logic.specs.declared.records.Node.TheVariants.{Top, Bottom, Name, Not, And, Or, All, Exists, Typical, Absent}

-- The number of an atom is that of a concept name; the number in all and some is that of a role.
pub data Concept : Type 0 where
  top bottom : Concept
  atom : ℕ → Concept
  not : Concept → Concept
  and or : Concept → Concept → Concept
  all some : ℕ → Concept → Concept
  typical : Concept → Concept

-- the concept at a place of a list; bottom past the end
abbrev pub of : List Concept → ℕ → Concept
of cs i = slice_index_or cs i bottom

-- the concept of a node; cs are the concepts of the nodes before it
abbrev pub read : List Concept → Node → Concept
read cs Top = top
read cs Bottom = bottom
read cs (Name a) = atom a
read cs (Not c) = not (of cs c)
read cs (And c d) = and (of cs c) (of cs d)
read cs (Or c d) = or (of cs c) (of cs d)
read cs (All r c) = all r (of cs c)
read cs (Exists r c) = some r (of cs c)
read cs (Typical c) = typical (of cs c)
read cs Absent = bottom

-- one node after the other, each read over the concepts so far
abbrev pub concepts_after : List Concept → List Node → List Concept
concepts_after cs [] = cs
concepts_after cs (n ∷ ns) = concepts_after (cs ++ read cs n ∷ []) ns

-- the concepts of a list of nodes, bottom up
abbrev pub concepts : List Node → List Concept
concepts ns = concepts_after [] ns

-- no typicality occurs in the concept, at any depth
abbrev pub plain : Concept → Bool
plain top = true
plain bottom = true
plain (atom a) = true
plain (not c) = plain c
plain (and c d) = plain c && plain d
plain (or c d) = plain c && plain d
plain (all r c) = plain c
plain (some r c) = plain c
plain (typical c) = false

-- for each node of a list, whether its concept is plain
abbrev pub plain_marks : List Node → List Bool
plain_marks ns = map plain (concepts ns)

-- the concept is T(c) for some c
abbrev pub is_typical : Concept → Bool
is_typical top = false
is_typical bottom = false
is_typical (atom a) = false
is_typical (not c) = false
is_typical (and c d) = false
is_typical (or c d) = false
is_typical (all r c) = false
is_typical (some r c) = false
is_typical (typical c) = true
