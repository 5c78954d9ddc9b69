-- A list of records that is granted, by one more record at its end. Assumes nothing.
use Rattle.std.proofs.Common.{◌≡◌, ℕ, ◌+◌, ◌<◌, List, [], ◌∷◌, ◌++◌, length, get_or, take, drop, Err, sym, ap, ◌∙◌, subst}
use Rattle.std.proofs.lemmas.List.{take_more, take-append-drop, drop_more}
use Rattle.logic.specs.Books.{Book}
use Rattle.books.specs.declared.faults.OfferFault.{OfferFault}
use Rattle.books.specs.Answers.{Offer, OfferRefused}
use Rattle.books.specs.Writing.{ListGranted, ListAnswer}

module _ {A : Type 0} (o : Offer A) where
  written-push : (bk bk' bk'' : Book) (xs : List A) (x : A) → ListGranted o bk xs bk' → o.refusal bk' x ≡ 0 → bk'' ≡ o.more bk' x → ListGranted o bk (xs ++ x ∷ []) bk''
  written-push bk bk' bk'' [] x is granted grown =
      (subst (λ b. o.refusal b x ≡ 0) is granted, subst (λ b. bk'' ≡ o.more b x) is grown)
  written-push bk bk' bk'' (y ∷ xs) x h granted grown = (h.0, written-push (o.more bk y) bk' bk'' xs x h.1 granted grown)

  module _ (bk bk' bk'' : Book) (xs : List A) (i : ℕ) (d : A) (within : i < length xs) (written : ListGranted o bk (take i xs) bk') where
    -- one turn of a loop over the list
    pub written_more : o.refusal bk' (get_or xs i d) ≡ 0 → bk'' ≡ o.more bk' (get_or xs i d) → ListGranted o bk (take (i + 1) xs) bk''
    written_more granted grown = rw (take_more xs i d) (written-push bk bk' bk'' (take i xs) (get_or xs i d) written granted grown)

    -- the turn in which a record is refused
    pub list_refused : (f : OfferFault A) → OfferRefused o bk' (get_or xs i d) f → bk'' ≡ bk' → ListAnswer o bk bk'' xs (Err f)
    list_refused f refused same =
        let parts : xs ≡ take i xs ++ get_or xs i d ∷ drop (i + 1) xs = sym (take-append-drop i xs) ∙ ap (λ rest. take i xs ++ rest) (drop_more xs i d within) in
        (take i xs, get_or xs i d, drop (i + 1) xs, parts, subst (ListGranted o bk (take i xs)) (sym same) written, subst (λ b. OfferRefused o b (get_or xs i d) f) (sym same) refused)
