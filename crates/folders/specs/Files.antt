-- The files of a folder that are a hand-in.
-- File: a file, or none. OpenedFile: what opening a file answers. counted: the bytes that count.
-- Files, InFolder: the four files of a hand-in, by their names.
-- Assumes nothing.
use Rattle.std.specs.Prelude.{◌≡◌, ℕ, List, [], Some, None, IfSome, IsNone, IsSomeAnd, codes}
use Rattle.std.specs.declared.option.Option.{Option}
use Rattle.verdict.specs.Marks.{marked_part}

-- the bytes of a file, or `None`: there is no such file
abbrev pub File : Type 0
File = Option (List ℕ)

-- Opening a missing file answers `None`; opening a file answers a reader with its bytes left to read.
abbrev pub OpenedFile : {R : Type 0} → (R → Option (List ℕ)) → File → Option R → Type 0
OpenedFile remaining None opened = IsNone opened
OpenedFile remaining (Some bs) opened = IsSomeAnd opened (λ r. remaining r ≡ Some bs)

-- the bytes of a file that count; a missing file counts as empty
abbrev pub counted : File → List ℕ
counted None = []
counted (Some bs) = marked_part bs

-- the four files that a hand-in may have
pub record Files : Type 0 where
  pub book : File
  pub steps : File
  pub model : File
  pub pairs : File

-- Each file is the file of its name in the folder, as far as that is known.
pub record InFolder (known : List ℕ → Option File) (fs : Files) : Type 0 where
  pub book : IfSome (known (codes "book.bin")) (λ is. fs.book ≡ is)
  pub steps : IfSome (known (codes "steps.bin")) (λ is. fs.steps ≡ is)
  pub model : IfSome (known (codes "model.bin")) (λ is. fs.model ≡ is)
  pub pairs : IfSome (known (codes "pairs.bin")) (λ is. fs.pairs ≡ is)
