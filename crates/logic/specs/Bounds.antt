-- The limits of books and tableaux.
-- Assumes nothing.
use Rattle.std.specs.Prelude.{ℕ}

-- nodes of a book
abbrev pub node_limit : ℕ
node_limit = 512

-- entries of a book, struck ones included
abbrev pub entry_limit : ℕ
entry_limit = 256

-- concept names, numbered from 0
abbrev pub name_limit : ℕ
name_limit = 64

-- roles, numbered from 0
abbrev pub role_limit : ℕ
role_limit = 16

-- individuals, numbered from 0
abbrev pub individual_limit : ℕ
individual_limit = 32

-- steps of a tableau
abbrev pub step_limit : ℕ
step_limit = 8192

-- labels of a tableau, the individuals included
abbrev pub label_limit : ℕ
label_limit = 256
