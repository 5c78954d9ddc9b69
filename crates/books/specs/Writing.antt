-- Lists of records that are offered to a book one after the other, up to the first that is refused.
-- ListGranted: a list that is granted whole. ListAnswer: what is answered, and what the book holds then.
-- Assumes nothing.
use Rattle.std.specs.Prelude.{◌≡◌, List, [], ◌∷◌, ◌++◌, Ok, Err, Result}
use Rattle.logic.specs.Books.{Book}
use Rattle.books.specs.declared.faults.OfferFault.{OfferFault}
use Rattle.books.specs.Answers.{Offer, OfferRefused}

-- each record of the list is granted in its turn, and bk' is the book with all of them appended
abbrev pub ListGranted : {R : Type 0} → Offer R → Book → List R → Book → Type 0
ListGranted o bk [] bk' = bk' ≡ bk
ListGranted o bk (x ∷ xs) bk' = (o.refusal bk x ≡ 0) × ListGranted o (o.more bk x) xs bk'

-- the whole list, or the part in front of the first record that is refused
abbrev pub ListAnswer : {R : Type 0} → Offer R → Book → Book → List R → Result (Unit {0}) (OfferFault R) → Type 0
ListAnswer o bk bk' xs (Ok u) = ListGranted o bk xs bk'
ListAnswer {R} o bk bk' xs (Err f) =
    (front : List R) × (x : R) × (rest : List R) × (xs ≡ front ++ x ∷ rest) × ListGranted o bk front bk' × OfferRefused o bk' x f
