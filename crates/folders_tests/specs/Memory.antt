-- The files of a folder in memory.
-- file_in: the file of a name.
-- Assumes nothing.
use Rattle.std.specs.Prelude.{ℕ, List, None, if◌then◌else◌, nat_eq, codes}
use Rattle.std.specs.Option.{option_map}
use lib.Pointwise.{pointwise}
use Rattle.folders.specs.Files.{File}
use Rattle.folders_tests.specs.declared.memory.Memory.{Memory}

-- the file of a name
abbrev pub file_in : Memory → List ℕ → File
file_in folder name =
    if pointwise nat_eq name (codes "book.bin") then option_map (λ b. b.now) folder.book
    else if pointwise nat_eq name (codes "steps.bin") then option_map (λ b. b.now) folder.steps
    else if pointwise nat_eq name (codes "model.bin") then option_map (λ b. b.now) folder.model
    else if pointwise nat_eq name (codes "pairs.bin") then option_map (λ b. b.now) folder.pairs
    else None
