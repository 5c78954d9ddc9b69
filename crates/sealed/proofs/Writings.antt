-- Writing one piece after the other at the front of a buffer. Assumes nothing.
use Rattle.std.proofs.Common.{◌≡◌, ℕ, ◌+◌, ◌<◌, List, ◌++◌, length, get_or, take, drop, sym, ap, ◌∙◌, subst, arith}
use Rattle.std.specs.List.{flat_map}
use Rattle.std.proofs.lemmas.List.{append_assoc, length-append, take_at, drop-drop, take_more, flat_map_more, drop_at, take_all}
use Rattle.logic.specs.Books.{Book}
use Rattle.sealed.specs.Writing.{node_bytes, entry_bytes, trailer_bytes, book_bytes}

-- the front of a buffer is written, up to here, and the rest is as it was
pub record Front (front rest out : List ℕ) (at : ℕ) : Type 0 where
  pub is : out ≡ front ++ drop at rest
  pub long : at ≡ length front

-- one piece more
pub front_more : (front rest out out' piece : List ℕ) (at at' : ℕ) → Front front rest out at → at' ≡ at + length piece → out' ≡ take at out ++ (piece ++ drop (at + length piece) out) → Front (front ++ piece) rest out' at'
front_more front rest out out' piece at at' f end put =
    let taken : take at out ≡ front = ap (take at) f.is ∙ take_at front (drop at rest) at (sym f.long) in
    let left : drop at out ≡ drop at rest = ap (drop at) f.is ∙ drop_at front (drop at rest) at (sym f.long) in
    let after : drop (at + length piece) out ≡ drop at' rest =
    sym (drop-drop (length piece) at out) ∙ ap (drop (length piece)) left ∙ drop-drop (length piece) at rest ∙ ap (λ k. drop k rest) (sym end) in
    record {
      is = put ∙ (λ i. taken i ++ (piece ++ after i)) ∙ sym (append_assoc front piece (drop at' rest));
      long = end ∙ ap (λ k. k + length piece) f.long ∙ sym (length-append front piece);
    }

-- one record more of a list, behind what is written already; and all of them
module _ {X : Type 0} (f : X → List ℕ) (before rest out : List ℕ) (at : ℕ) (xs : List X) (i : ℕ) (h : Front (before ++ flat_map f (take i xs)) rest out at) where
  pub record_more : (out' piece : List ℕ) (at' : ℕ) (d : X) → i < length xs → piece ≡ f (get_or xs i d) → at' ≡ at + length piece → out' ≡ take at out ++ (piece ++ drop (at + length piece) out) → Front (before ++ flat_map f (take (i + 1) xs)) rest out' at'
  record_more out' piece at' d below same end put =
      let grown : (before ++ flat_map f (take i xs)) ++ piece ≡ before ++ flat_map f (take (i + 1) xs) =
      ap (λ p. (before ++ flat_map f (take i xs)) ++ p) same ∙ flat_map_more f before (take i xs) (get_or xs i d) ∙ ap (λ ys. before ++ flat_map f ys) (sym (take_more xs i d below)) in
      subst (λ front. Front front rest out' at') grown (front_more _ rest out out' piece at at' h end put)

  pub records_all : i ≡ length xs → Front (before ++ flat_map f xs) rest out at
  records_all end = subst (λ ys. Front (before ++ flat_map f ys) rest out at) (take_all i xs (omega arith)) h

-- nodes, entries and trailer, one behind the other, are the writing of the book
pub whole_written : (bk : Book) (rest out : List ℕ) (at : ℕ) {trailer : List ℕ} → trailer ≡ trailer_bytes (length bk.nodes) (length bk.entries) → Front ((flat_map node_bytes bk.nodes ++ flat_map entry_bytes bk.entries) ++ trailer) rest out at → Front (book_bytes bk) rest out at
unfolding book_bytes
whole_written bk rest out at {trailer} is =
    let ns = flat_map node_bytes bk.nodes in
    let ls = flat_map entry_bytes bk.entries in
    subst (λ front. Front front rest out at) (append_assoc ns ls trailer ∙ ap (λ t. ns ++ (ls ++ t)) is)
