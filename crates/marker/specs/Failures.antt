-- What a folder that is not marked leaves with the writer.
-- KeptIfUnread: if a file cannot be read, the writer holds what it held before.
-- Assumes nothing.
use Rattle.std.specs.Prelude.{◌≡◌, ⊤, ℕ, List, Option}
use Rattle.marker.specs.declared.Failure.{Failure}
use Rattle.marker.specs.declared.Failure.TheVariants.{Read, Write}

-- Read: the writer holds what it held before. Write: nothing is said.
abbrev pub KeptIfUnread : Failure → Option (List ℕ) → Option (List ℕ) → Type 0
KeptIfUnread (Read fault) before after = after ≡ before
KeptIfUnread (Write error) before after = ⊤
