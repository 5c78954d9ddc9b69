-- Sets of entries, as marks.
-- member: an entry is in the set. member_count: how many are. with_named, marks_of: those that steps name.
-- Assumes nothing.
use Rattle.std.specs.Prelude.{ℕ, Bool, true, false, ◌||◌, if◌then◌else◌, List, count_by, replicate, ◌==◌, slice_index_or, slice_set}
use Rattle.std.specs.List.{fold}
use Rattle.logic.specs.declared.tableau.Step.{Step}
use Rattle.judge.specs.declared.used.Used.{Used}

-- entry i is in the set
abbrev pub member : Used → ℕ → Bool
member u i = slice_index_or u.marks i false

-- how many entries are in the set
abbrev pub member_count : Used → ℕ
member_count u = count_by (λ mark. mark) u.marks

-- the marks with the entry that a step of op 1 or 2 names
abbrev pub with_named : List Bool → Step → List Bool
with_named marks s = if s.op == 1 || s.op == 2 then slice_set marks s.a true else marks

-- the marks of a list of steps
abbrev pub marks_of : List Step → List Bool
marks_of ss = fold with_named (replicate 256 false) ss
