-- The hand-in in a folder, and its verdict.
-- ReadFrom: what is read from the files. HandInMark: the verdict on what was read. FilesMark: the verdict on the files.
-- Unread: the file that an error names.
-- Assumes nothing.
use Rattle.std.specs.Prelude.{◌≡◌, ◌⊎◌, ℕ, List, IsSome, IsNone, IsSomeAnd, MatchOption, codes}
use Rattle.verdict.specs.declared.Verdict.{Verdict}
use Rattle.verdict.specs.Marks.{marked_part, TableauMark, ModelMark}
use Rattle.folders.specs.declared.hand_in.HandIn.{HandIn}
use Rattle.folders.specs.declared.hand_in.HandIn.TheVariants.{Tableau, Model}
use Rattle.folders.specs.Files.{Files, counted}

-- The hand-in has those bytes of the files that count: with `steps.bin` it is a tableau, without it a model.
abbrev pub ReadFrom : Files → HandIn → Type 0
ReadFrom fs (Tableau book steps) =
    (marked_part book.items ≡ counted fs.book) × IsSomeAnd fs.steps (λ bs. marked_part steps.items ≡ marked_part bs)
ReadFrom fs (Model book model pairs) =
    (marked_part book.items ≡ counted fs.book) × IsNone fs.steps
    × (marked_part model.items ≡ counted fs.model) × (marked_part pairs.items ≡ counted fs.pairs)

-- the verdict of marking: of the tableau, or of the model with its pairs, against the book
abbrev pub HandInMark : HandIn → Verdict → Type 0
HandInMark (Tableau book steps) v = TableauMark (marked_part book.items) (marked_part steps.items) v
HandInMark (Model book model pairs) v =
    ModelMark (marked_part book.items) (marked_part model.items) (marked_part pairs.items) v

-- The verdict on the files: with `steps.bin` that on a tableau, without it that on a model.
abbrev pub FilesMark : Files → Verdict → Type 0
FilesMark fs v =
    MatchOption fs.steps (ModelMark (counted fs.book) (counted fs.model) (counted fs.pairs) v)
    (λ bs. TableauMark (counted fs.book) (marked_part bs) v)

-- A file of this name exists and is part of the hand-in. Model and pairs are part of it only without `steps.bin`.
abbrev pub Unread : Files → List ℕ → Type 0
Unread fs name =
    ((name ≡ codes "book.bin") × IsSome fs.book)
    ⊎ ((name ≡ codes "steps.bin") × IsSome fs.steps)
    ⊎ ((name ≡ codes "model.bin") × IsSome fs.model × IsNone fs.steps)
    ⊎ ((name ≡ codes "pairs.bin") × IsSome fs.pairs × IsNone fs.steps)
