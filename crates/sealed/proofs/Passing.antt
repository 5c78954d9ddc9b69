-- Bytes that pass are a note and then the writing of a lawful book. Assumes nothing.
use Rattle.std.proofs.Common.{◌≡◌, ℕ, zero, suc, ◌+◌, ◌-◌, ◌*◌, ◌/◌, ◌%◌, ◌<◌, ◌≤◌, true, eqb, ltb, leb, List, [], ◌∷◌, ◌++◌, map, length, take, drop, sym, ap, ◌∙◌, subst, add-one, arith, take-add}
use Rattle.std.specs.List.{flat_map}
use Rattle.std.proofs.lemmas.List.{take-append-drop, drop-drop, flat_map_more, take_all, length-drop}
use Rattle.std.proofs.lemmas.Bool.{and_parts, leb-true, eqb-true}
use Rattle.logic.specs.declared.records.Node.{Node}
use Rattle.logic.specs.Written.{node_of}
use Rattle.logic.specs.Books.{Book}
use Rattle.logic.specs.Lawful.{Lawful}
use Rattle.logic.proofs.Lawfulness.{lawful_empty}
use Rattle.logic.proofs.Refusing.{node_granted, entry_granted_stored}
use Rattle.sealed.specs.Writing.{node_bytes, entry_bytes, u16_bytes, u32_bytes, records_length, trailer_bytes, book_bytes, SealedAs}
use Rattle.logic.specs.Bytes.{byte, u16_at, u32_at}
use Rattle.sealed.specs.Reading.{raw_node_at, raw_entry_at, stored_at_offset, nodes_in, entries_in, node_total, entry_total, distance, has_trailer, node_start, entry_start, sealed_book, node_refusal_in, entry_refusal_in}
use Rattle.sealed.specs.Checks.{AllGranted, Passes}
use Rattle.sealed.proofs.Numbers.{u32_halves, bytes_from}
use Rattle.sealed.proofs.Records.{two_bytes, node_writes, entry_writes}
use Rattle.sealed.proofs.Rows.{nodes_in_none, nodes_in_more, length-nodes_in, entries_in_none, entries_in_more, length-entries_in}

-- the parts of a trailer that fits
pub record Frame (bs : List ℕ) (n m : ℕ) : Type 0 where
  pub long : 8 ≤ length bs
  pub few_nodes : n ≤ 512
  pub few_entries : m ≤ 256
  pub distance_is : distance bs ≡ records_length n m
  pub within : records_length n m ≤ length bs - 8

pub frame_parts : (bs : List ℕ) (n m : ℕ) → has_trailer bs ≡ true → n ≡ node_total bs → m ≡ entry_total bs → Frame bs n m
frame_parts bs n m h is-n is_m =
    let f₁ = and_parts (leb 8 (length bs)) _ h in
    let f₂ = and_parts (leb (node_total bs) 512) _ f₁.1 in
    let f₃ = and_parts (leb (entry_total bs) 256) _ f₂.1 in
    let f₄ = and_parts (eqb (distance bs) (records_length (node_total bs) (entry_total bs))) _ f₃.1 in
    let d = eqb-true (distance bs) (records_length (node_total bs) (entry_total bs)) f₄.0 in
    record {
      long = leb-true 8 (length bs) f₁.0;
      few_nodes = omega (arith, is-n, leb-true (node_total bs) 512 f₂.0);
      few_entries = omega (arith, is_m, leb-true (entry_total bs) 256 f₃.0);
      distance_is = omega (arith, d, is-n, is_m);
      within = omega (arith, d, is-n, is_m, leb-true (distance bs) (length bs - 8) f₄.1);
    }

-- Records of one size that are each written where they are read are written one after the other.
module _ {X : Type 0} (f : X → List ℕ) (size : ℕ) (items : ℕ → List X) (item : ℕ → X) (none : items 0 ≡ []) (more : (i : ℕ) → items (i + 1) ≡ items i ++ item i ∷ []) where
  records_written : (bs : List ℕ) (from n : ℕ) → ((i : ℕ) → i < n → take size (drop (from + size * i) bs) ≡ f (item i)) → take (size * n) (drop from bs) ≡ flat_map f (items n)
  records_written bs from zero here = let empty-front : size * zero ≡ zero = omega arith in ap (λ k. take k (drop from bs)) empty-front ∙ ap (flat_map f) (sym none)
  records_written bs from (suc n) here =
      let before = records_written bs from n (λ i h. here i (omega arith)) in
      let longer : size * suc n ≡ size * n + size = omega arith in
      ap (λ k. take k (drop from bs)) longer
      ∙ take-add (size * n) size (drop from bs)
      ∙ (λ t. before t ++ take size (drop-drop (size * n) from bs t))
      ∙ ap (λ xs. flat_map f (items n) ++ xs) (here n (omega arith))
      ∙ flat_map_more f [] (items n) (item n)
      ∙ ap (flat_map f) (sym (more n) ∙ ap items (add-one n))

-- nodes that are granted in their turn are lawful, and their bytes are their writing
module _ (bs : List ℕ) (from : ℕ) where
  abbrev only : List Node → Book
  only ns = record { nodes = ns; entries = [] }

  pub nodes_lawful : (i : ℕ) → AllGranted (node_refusal_in bs from) i → Lawful (only (nodes_in bs from i))
  nodes_lawful zero g = subst (λ ns. Lawful (only ns)) (sym (nodes_in_none bs from)) lawful_empty
  nodes_lawful (suc i) g =
      let before = nodes_lawful i (λ k h. g k (omega arith)) in
      let grown = (node_granted (only (nodes_in bs from i)) (raw_node_at bs (from + 5 * i)) (g i (omega arith))).1 before in
      subst (λ ns. Lawful (only ns)) (sym (nodes_in_more bs from i) ∙ ap (nodes_in bs from) (add-one i)) grown

  pub nodes_written : ((k : ℕ) → byte bs k < 256) → (n : ℕ) → AllGranted (node_refusal_in bs from) n → from + 5 * n ≤ length bs → take (5 * n) (drop from bs) ≡ flat_map node_bytes (nodes_in bs from n)
  nodes_written bytes n g within =
      records_written node_bytes 5 (nodes_in bs from) (λ i. node_of (raw_node_at bs (from + 5 * i))) (nodes_in_none bs from) (nodes_in_more bs from) bs from n
      (λ i h. node_writes bs bytes (from + 5 * i) _ (node_granted (only (nodes_in bs from i)) (raw_node_at bs (from + 5 * i)) (g i h)).0 (omega arith))

-- the same of entries, over nodes that are lawful
module _ (bs : List ℕ) (from : ℕ) (ns : List Node) where
  abbrev over : ℕ → Book
  over j = record { nodes = ns; entries = entries_in bs from j }

  pub entries_lawful : Lawful (record { nodes = ns; entries = [] }) → (j : ℕ) → AllGranted (entry_refusal_in bs ns from) j → Lawful (over j)
  entries_lawful base zero g = subst (λ ls. Lawful (record { nodes = ns; entries = ls })) (sym (entries_in_none bs from)) base
  entries_lawful base (suc j) g =
      let before = entries_lawful base j (λ k h. g k (omega arith)) in
      let grown = (entry_granted_stored (over j) (raw_entry_at bs (from + 7 * j)) (ltb (byte bs (from + 7 * j)) 16) (g j (omega arith))).1 before in
      subst (λ ls. Lawful (record { nodes = ns; entries = ls })) (sym (entries_in_more bs from j) ∙ ap (entries_in bs from) (add-one j)) grown

  pub entries_written : ((k : ℕ) → byte bs k < 256) → (m : ℕ) → AllGranted (entry_refusal_in bs ns from) m → from + 7 * m ≤ length bs → take (7 * m) (drop from bs) ≡ flat_map entry_bytes (entries_in bs from m)
  entries_written bytes m g within =
      records_written entry_bytes 7 (entries_in bs from) (λ j. stored_at_offset bs (from + 7 * j)) (entries_in_none bs from) (entries_in_more bs from) bs from m
      (λ j h. entry_writes bs bytes (from + 7 * j) _ (entry_granted_stored (over j) (raw_entry_at bs (from + 7 * j)) (ltb (byte bs (from + 7 * j)) 16) (g j h)).0 (omega arith))

pub passed_lawful : (bs : List ℕ) (n m : ℕ) → Passes bs n m → Lawful (sealed_book bs n m)
passed_lawful bs n m p =
    entries_lawful bs (entry_start bs m) (nodes_in bs (node_start bs n m) n) (nodes_lawful bs (node_start bs n m) n p.nodes) m p.entries

-- the eight bytes of a trailer
trailer_from : (bs : List ℕ) → ((k : ℕ) → byte bs k < 256) → (from n m d : ℕ) → from + 8 ≡ length bs → u16_at bs from ≡ n → u16_at bs (from + 2) ≡ m → u32_at bs (from + 4) ≡ d → drop from bs ≡ u16_bytes n ++ (u16_bytes m ++ u32_bytes d)
trailer_from bs bytes from n m d end nodes entries far =
    let two : ℕ → List ℕ = λ k. map (byte bs) (k ∷ (k + 1) ∷ []) in
    let sum : u16_at bs (from + 4) < 65536 = omega (arith, bytes (from + 4), bytes (from + 4 + 1)) in
    let sixth : from + 4 + 2 ≡ from + 6 = omega arith in
    let halves = sym (u32_halves bs (from + 4)) ∙ far in
    let low : u16_at bs (from + 4) ≡ d % 65536 = omega (arith, sum, halves) in
    let high : u16_at bs (from + 6) ≡ d / 65536 = ap (u16_at bs) (sym sixth) ∙ omega (arith, sum, halves) in
    let p₂ : from + 1 + 1 ≡ from + 2 = omega arith in
    let p₄ : from + 1 + 1 + 1 + 1 ≡ from + 4 = omega arith in
    let p₆ : from + 1 + 1 + 1 + 1 + 1 + 1 ≡ from + 6 = omega arith in
    sym (take_all 8 (drop from bs) (rw length-drop (omega arith)))
    ∙ bytes_from bs from 8 (omega arith)
    ∙ (λ i. two from ++ (two (p₂ i) ++ (two (p₄ i) ++ two (p₆ i))))
    ∙ (λ i. two_bytes bs bytes from from n nodes i ++ (two_bytes bs bytes from (from + 2) m entries i ++ (two_bytes bs bytes from (from + 4) (d % 65536) low i ++ two_bytes bs bytes from (from + 6) (d / 65536) high i)))

pub passed_sealed : (bs : List ℕ) (n m : ℕ) → Passes bs n m → ((k : ℕ) → byte bs k < 256) → SealedAs bs (sealed_book bs n m)
unfolding book_bytes node_total entry_total distance
passed_sealed bs n m p bytes =
    let f = frame_parts bs n m p.fits p.nodes_are p.entries_are in
    let s = node_start bs n m in
    let e = entry_start bs m in
    let t = length bs - 8 in
    let ns = nodes_in bs s n in
    let ls = entries_in bs e m in
    let s-e : s + 5 * n ≡ e = omega (arith, f.within, f.long) in
    let e-t : e + 7 * m ≡ t = omega (arith, f.within, f.long) in
    let nodes = nodes_written bs s bytes n p.nodes (omega (arith, f.within, f.long)) in
    let entries = entries_written bs e ns bytes m p.entries (omega (arith, f.within, f.long)) in
    let six : length bs - 6 ≡ t + 2 = omega (arith, f.long) in
    let four : length bs - 4 ≡ t + 4 = omega (arith, f.long) in
    let trailer = trailer_from bs bytes t n m (records_length n m) (omega (arith, f.long)) (sym p.nodes_are) (ap (u16_at bs) (sym six) ∙ sym p.entries_are) (ap (u32_at bs) (sym four) ∙ f.distance_is) in
    let after-entries : drop e bs ≡ flat_map entry_bytes ls ++ trailer_bytes n m =
    sym (take-append-drop (7 * m) (drop e bs)) ∙ (λ i. entries i ++ (drop-drop (7 * m) e bs ∙ ap (λ k. drop k bs) e-t ∙ trailer) i) in
    let after-nodes : drop s bs ≡ flat_map node_bytes ns ++ (flat_map entry_bytes ls ++ trailer_bytes n m) =
    sym (take-append-drop (5 * n) (drop s bs)) ∙ (λ i. nodes i ++ (drop-drop (5 * n) s bs ∙ ap (λ k. drop k bs) s-e ∙ after-entries) i) in
    let counts : trailer_bytes n m ≡ trailer_bytes (length ns) (length ls) = λ i. trailer_bytes (sym (length-nodes_in bs s n) i) (sym (length-entries_in bs e m) i) in
    record {
      lawful = passed_lawful bs n m p;
      note = take s bs;
      is = sym (take-append-drop s bs) ∙ ap (λ xs. take s bs ++ xs) (after-nodes ∙ ap (λ xs. flat_map node_bytes ns ++ (flat_map entry_bytes ls ++ xs)) counts);
    }
