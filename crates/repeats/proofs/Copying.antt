-- An entry that was copied and struck is the next struck entry of the book. Assumes nothing.
use Rattle.std.proofs.Common.{◌≡◌, ℕ, ◌+◌, ◌<◌, true, false, List, [], ◌∷◌, ◌++◌, length, take, set, get_or, sym, refl, ap, ◌∙◌}
use Rattle.std.proofs.Math.Seq.{set-append_seam}
use Rattle.std.proofs.lemmas.List.{take_more, get_or_push}
use Rattle.logic.specs.declared.records.Entry.{Entry}
use Rattle.logic.specs.declared.records.Entry.TheVariants as entry
use Rattle.logic.specs.declared.records.RawEntry.{RawEntry}
use Rattle.logic.specs.declared.records.StoredEntry.{StoredEntry}
use Rattle.logic.specs.Written.{entry_of, entry_kind, entry_a, entry_b, entry_c, WritesEntry}
use Rattle.logic.specs.Books.{Book, stored_at, no_stored_entry, with_entry, with_strike, struck}
use Rattle.repeats.specs.Copies.{copied_entries}

-- an entry is read from its own numbers
entry_back : (e : Entry) (raw : RawEntry) → WritesEntry raw e → entry_of raw ≡ e
entry_back e raw w = ap entry_of same ∙ own e
  where
    same : raw ≡ record { kind = entry_kind e; a = entry_a e; b = entry_b e; c = entry_c e }
    same = λ i. record { kind = w.kind i; a = w.a i; b = w.b i; c = w.c i }

    own : (m : Entry) → entry_of (record { kind = entry_kind m; a = entry_a m; b = entry_b m; c = entry_c m }) ≡ m
    own (entry.Inclusion c d) = refl
    own (entry.Fact x c) = refl
    own (entry.RoleFact r x y) = refl
    own entry.Absent = refl

pub struck_copied : (bk : Book) (j : ℕ) (l : StoredEntry) (raw : RawEntry) → j < length bk.entries → l ≡ stored_at bk j → l.live ≡ false → WritesEntry raw l.entry → with_strike (with_entry (copied_entries bk j) (entry_of raw)) (length (take j bk.entries)) ≡ copied_entries bk (j + 1)
struck_copied bk j l raw within is dead w = λ k. record { nodes = bk.nodes; entries = entries k }
  where
    front : List StoredEntry
    front = take j bk.entries

    taken : StoredEntry
    taken = record { entry = entry_of raw; live = true }

    same : struck taken ≡ stored_at bk j
    same = (λ i. record { entry = entry_back l.entry raw w i; live = sym dead i }) ∙ is

    entries : set (front ++ taken ∷ []) (length front) (struck (get_or (front ++ taken ∷ []) (length front) no_stored_entry)) ≡ take (j + 1) bk.entries
    entries =
        ap (λ x. set (front ++ taken ∷ []) (length front) (struck x)) (get_or_push front taken no_stored_entry (length front) refl)
        ∙ set-append_seam front taken [] (struck taken)
        ∙ ap (λ x. front ++ x ∷ []) same
        ∙ sym (take_more bk.entries j no_stored_entry within)
