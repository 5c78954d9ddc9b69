-- What a sealed book means, and the bytes that it is read from.
-- Assumes nothing.
use Rattle.std.specs.Prelude.{ℕ, List}
use Rattle.logic.specs.Books.{Book}
use Rattle.sealed.specs.declared.sealed_book.SealedBook.{SealedBook}
use Rattle.sealed.specs.Frames.{book_in}

-- the book whose records precede the trailer
abbrev pub meaning : SealedBook → Book
meaning b = book_in b.frame

-- the bytes that it was opened on, and from which each query reads
abbrev pub opened_on : SealedBook → List ℕ
opened_on b = b.frame.bytes.now
