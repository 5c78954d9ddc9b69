-- One record at an offset: what was written is read, and what is read was written. Assumes nothing.
use Rattle.std.proofs.Common.{◌≡◌, ℕ, ◌+◌, ◌-◌, ◌/◌, ◌%◌, ◌<◌, ◌≤◌, Bool, true, false, cond, ltb, List, [], ◌∷◌, ◌++◌, map, length, take, drop, sym, refl, ap, ◌∙◌, arith}
use Rattle.std.proofs.lemmas.Bool.{false≢true}
use Rattle.std.proofs.lemmas.Bool.Decides.{nat_tests}
use Rattle.logic.specs.declared.records.Node.{Node}
use Rattle.logic.specs.declared.records.Entry.{Entry}
use Rattle.logic.specs.declared.records.Entry.TheVariants as entry
use Rattle.logic.specs.declared.records.StoredEntry.{StoredEntry}
use Rattle.logic.specs.Written.{node_kind, node_a, node_b, entry_kind, entry_a, entry_b, entry_c, WritesNode, WritesEntry}
use Rattle.logic.specs.Lawful.{is_entry}
use Rattle.sealed.specs.Writing.{u16_bytes, node_bytes, entry_bytes}
use Rattle.logic.specs.Bytes.{byte, u16_at}
use Rattle.sealed.specs.Reading.{raw_node_at, raw_entry_at}
use Rattle.sealed.proofs.Numbers.{byte_written, u16_from, low_byte, high_byte, bytes_from}

module _ (bs rest : List ℕ) (from : ℕ) where
  pub node_reads : (n : Node) → drop from bs ≡ node_bytes n ++ rest → WritesNode (raw_node_at bs from) n
  node_reads n is =
      let at : (k j : ℕ) → from + k ≡ j → byte bs j ≡ byte (node_bytes n ++ rest) k = λ k j e. byte_written bs (node_bytes n ++ rest) from k j e is in
      record {
        kind = at 0 from (omega arith);
        a = u16_from _ _ (node_a n) (at 1 (from + 1) refl) (at 2 (from + 1 + 1) (omega arith));
        b = u16_from _ _ (node_b n) (at 3 (from + 3) refl) (at 4 (from + 3 + 1) (omega arith));
      }

  -- the kinds of entries are below 16
  small_kind : (e : Entry) → is_entry e ≡ true → entry_kind e < 16
  small_kind (entry.Inclusion c d) h = omega arith
  small_kind (entry.Fact x c) h = omega arith
  small_kind (entry.RoleFact r x y) h = omega arith
  small_kind entry.Absent h = absurd (false≢true h)

  kind_and_mark : (kind : ℕ) (live : Bool) → kind < 16 → (byte : ℕ) → byte ≡ kind + cond live 0 16 → (cond (ltb byte 16) byte (byte - 16) ≡ kind) × (ltb byte 16 ≡ live)
  kind_and_mark kind true h byte e = (grind (arith, nat_tests), grind (arith, nat_tests))
  kind_and_mark kind false h byte e = (grind (arith, nat_tests), grind (arith, nat_tests))

  pub entry_reads : (l : StoredEntry) → is_entry l.entry ≡ true → drop from bs ≡ entry_bytes l ++ rest → WritesEntry (raw_entry_at bs from) l.entry × (ltb (byte bs from) 16 ≡ l.live)
  entry_reads l known is =
      let e = l.entry in
      let at : (k j : ℕ) → from + k ≡ j → byte bs j ≡ byte (entry_bytes l ++ rest) k = λ k j e. byte_written bs (entry_bytes l ++ rest) from k j e is in
      let km = kind_and_mark (entry_kind e) l.live (small_kind e known) (byte bs from) (at 0 from (omega arith)) in (
        record {
          kind = km.0;
          a = u16_from _ _ (entry_a e) (at 1 (from + 1) refl) (at 2 (from + 1 + 1) (omega arith));
          b = u16_from _ _ (entry_b e) (at 3 (from + 3) refl) (at 4 (from + 3 + 1) (omega arith));
          c = u16_from _ _ (entry_c e) (at 5 (from + 5) refl) (at 6 (from + 5 + 1) (omega arith));
        },
        km.1,
      )

module _ (bs : List ℕ) (bytes : (k : ℕ) → byte bs k < 256) (from : ℕ) where
  -- the two bytes of a number
  pub two_bytes : (j n : ℕ) → u16_at bs j ≡ n → map (byte bs) (j ∷ (j + 1) ∷ []) ≡ u16_bytes n
  two_bytes j n is =
      let low : byte bs j ≡ n % 256 = sym (low_byte (byte bs j) (byte bs (j + 1)) (bytes j)) ∙ ap (λ x. x % 256) is in
      let high : byte bs (j + 1) ≡ n / 256 = sym (high_byte (byte bs j) (byte bs (j + 1)) (bytes j)) ∙ ap (λ x. x / 256) is in
      λ i. low i ∷ high i ∷ []

  pub node_writes : (n : Node) → WritesNode (raw_node_at bs from) n → from + 5 ≤ length bs → take 5 (drop from bs) ≡ node_bytes n
  node_writes n w within =
      let two : ℕ → List ℕ = λ k. map (byte bs) (k ∷ (k + 1) ∷ []) in
      let a = two_bytes (from + 1) (node_a n) w.a in
      let b = two_bytes (from + 3) (node_b n) w.b in
      let third : from + 1 + 1 + 1 ≡ from + 3 = omega arith in
      bytes_from bs from 5 within
      ∙ (λ i. w.kind i ∷ (two (from + 1) ++ two (third i)))
      ∙ (λ i. node_kind n ∷ (a i ++ b i))

  whole_kind : (byte kind : ℕ) → cond (ltb byte 16) byte (byte - 16) ≡ kind → byte ≡ kind + cond (ltb byte 16) 0 16
  whole_kind byte kind is = grind (arith, nat_tests)

  pub entry_writes : (e : Entry) → WritesEntry (raw_entry_at bs from) e → from + 7 ≤ length bs → take 7 (drop from bs) ≡ entry_bytes (record { entry = e; live = ltb (byte bs from) 16 })
  entry_writes e w within =
      let kind = whole_kind (byte bs from) (entry_kind e) w.kind in
      let two : ℕ → List ℕ = λ k. map (byte bs) (k ∷ (k + 1) ∷ []) in
      let a = two_bytes (from + 1) (entry_a e) w.a in
      let b = two_bytes (from + 3) (entry_b e) w.b in
      let c = two_bytes (from + 5) (entry_c e) w.c in
      let third : from + 1 + 1 + 1 ≡ from + 3 = omega arith in
      let fifth : from + 1 + 1 + 1 + 1 + 1 ≡ from + 5 = omega arith in
      bytes_from bs from 7 within
      ∙ (λ i. kind i ∷ (two (from + 1) ++ (two (third i) ++ two (fifth i))))
      ∙ (λ i. (entry_kind e + cond (ltb (byte bs from) 16) 0 16) ∷ (a i ++ (b i ++ c i)))
