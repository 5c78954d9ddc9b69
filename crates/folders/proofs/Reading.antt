-- What was read of a folder, and the files that it has. Assumes nothing.
use Rattle.std.proofs.Common.{◌≡◌, ◌≢◌, ℕ, List, [], Option, Some, None, Result, Ok, Err, IfSome, IfErr, IsSome, IsNone, IsSomeAnd, codes, sym, refl, ap, ◌∙◌, subst, inl, inr, arith}
use Rattle.std.specs.Option.{option_map}
use Rattle.std.specs.Result.{IsErrAnd}
use Rattle.std.proofs.lemmas.List.{length-take, take_all}
use Rattle.verdict.specs.Marks.{marked_part}
use Rattle.folders.specs.declared.hand_in.ReadFault.{ReadFault}
use Rattle.folders.specs.Files.{File, OpenedFile, counted, Files, InFolder}
use Rattle.folders.specs.HandIns.{Unread}

-- an opened file gives the bytes that are known
pub opened : {R : Type 0} (remaining : R → Option (List ℕ)) (k : Option File) (file : R) (bs : List ℕ) →
    IfSome k (λ is. OpenedFile remaining is (Some file)) → IfSome (remaining file) (λ all. bs ≡ marked_part all) →
    IfSome k (λ is. ◌≡◌ {A = File} (Some bs) (option_map marked_part is))
opened remaining None file bs o h = tt
opened remaining (Some None) file bs o h = cc o
opened remaining (Some (Some all)) file bs o h = ap Some (rw o at h)

-- the file that is known, or else what was read
abbrev pub found : Option File → File → File
found None read = read
found (Some is) read = is

found_known : (k : Option File) (read : File) → IfSome k (λ is. found k read ≡ is)
found_known None read = tt
found_known (Some is) read = refl

whole_whole : (bs : List ℕ) → marked_part (marked_part bs) ≡ marked_part bs
whole_whole bs = take_all 65535 (marked_part bs) (omega (arith, length-take 65535 bs))

-- as many bytes count of what was read as of the file
pub counts : (k : Option File) (bs : List ℕ) → IfSome k (λ is. bs ≡ counted is) → marked_part bs ≡ counted (found k (Some bs))
counts None bs h = refl
counts (Some None) bs h = ap marked_part h
counts (Some (Some all)) bs h = ap marked_part h ∙ whole_whole all

pub steps_there : (k : Option File) (bs : List ℕ) → IfSome k (λ is. ◌≡◌ {A = File} (Some bs) (option_map marked_part is)) →
    IsSomeAnd (found k (Some bs)) (λ all. marked_part bs ≡ marked_part all)
steps_there None bs h = refl
steps_there (Some None) bs h = cc h
steps_there (Some (Some all)) bs h = let same : bs ≡ marked_part all = cc h in ap marked_part same ∙ whole_whole all

pub steps_missing : (k : Option File) → IfSome k (λ is. ◌≡◌ {A = File} None (option_map marked_part is)) → IsNone (found k None)
steps_missing None h = refl
steps_missing (Some None) h = refl
steps_missing (Some (Some all)) h = cc h

there : (k : Option File) → k ≢ Some None → IsSome (found k (Some []))
there None h = refl
there (Some None) h = absurd (h refl)
there (Some (Some all)) h = refl

-- the files that are known, or else what was read
abbrev pub files : (List ℕ → Option File) → File → File → File → File → Files
files known book steps model pairs = record {
  book = found (known (codes "book.bin")) book;
  steps = found (known (codes "steps.bin")) steps;
  model = found (known (codes "model.bin")) model;
  pairs = found (known (codes "pairs.bin")) pairs;
}

pub in_folder : (known : List ℕ → Option File) (book steps model pairs : File) → InFolder known (files known book steps model pairs)
in_folder known book steps model pairs = record {
  book = found_known (known (codes "book.bin")) book;
  steps = found_known (known (codes "steps.bin")) steps;
  model = found_known (known (codes "model.bin")) model;
  pairs = found_known (known (codes "pairs.bin")) pairs;
}

-- the error that a `?` hands on names a file that is there
module _ (known : List ℕ → Option File) where
  abbrev pub Fails : ReadFault → Type 0
  Fails f = (fs : Files) × InFolder known fs × Unread fs f.name.now

  pub book_fails : (f : ReadFault) → f.name.now ≡ codes "book.bin" → known (codes "book.bin") ≢ Some None → Fails f
  book_fails f is h =
      (files known (Some []) None None None, in_folder known (Some []) None None None, inl (is, there _ h))

  pub steps_fail : (f : ReadFault) → f.name.now ≡ codes "steps.bin" → known (codes "steps.bin") ≢ Some None → Fails f
  steps_fail f is h =
      (files known None (Some []) None None, in_folder known None (Some []) None None, inr (inl (is, there _ h)))

  pub model_fails : (f : ReadFault) → IfSome (known (codes "steps.bin")) (λ is. ◌≡◌ {A = File} None (option_map marked_part is)) →
      f.name.now ≡ codes "model.bin" → known (codes "model.bin") ≢ Some None → Fails f
  model_fails f missing is h = (
    files known None None (Some []) None,
    in_folder known None None (Some []) None,
    inr (inr (inl (is, there _ h, steps_missing _ missing))),
  )

  pub pairs_fail : (f : ReadFault) → IfSome (known (codes "steps.bin")) (λ is. ◌≡◌ {A = File} None (option_map marked_part is)) →
      f.name.now ≡ codes "pairs.bin" → known (codes "pairs.bin") ≢ Some None → Fails f
  pairs_fail f missing is h = (
    files known None None None (Some []),
    in_folder known None None None (Some []),
    inr (inr (inr (is, there _ h, steps_missing _ missing))),
  )

pub handed_on : {T : Type 0} (r : Result T ReadFault) (e : ReadFault) (P : ReadFault → Type 0) → IsErrAnd r (λ f. f ≡ e) → P e → IfErr r P
handed_on (Ok x) e P h p = absurd h
handed_on (Err f) e P h p = subst P (sym h) p
