use Rattle.std.proofs.Common.{◌≡◌, ◌<◌, true, [], length, take, drop, sym, refl, ap, ◌∙◌, arith}
use Rattle.std.specs.List.{flat_map}
use Rattle.std.proofs.ByRecursion.{All-get_or}
use Rattle.std.proofs.lemmas.List.{take_at}
use Rattle.logic.specs.declared.records.Node.TheVariants.{Absent}
use Rattle.logic.specs.Books.{no_stored_entry}
use Rattle.logic.specs.Lawful.{is_entry, entry_well_formed}
use Rattle.logic.proofs.Lawfulness.{entry_parts}
use Rattle.sealed.specs.Writing.{node_bytes, entry_bytes, trailer_bytes, book_bytes}
use Rattle.sealed.proofs.Opening.{round_trip}
use Rattle.sealed.proofs.Sealing.{length-written}
use Rattle.sealed.proofs.Writings.{front_more, record_more, records_all, whole_written}
use Rattle.sealed.proofs.seal.seal.Goals as goal

pub returns-then-out-records_length-clause-answer : goal.returns-then-out-records_length-clause-answer
returns-then-out-records_length-clause-answer g c =
    let bk = g.B.ReadableBook.meaning c.args.book.now in
    (omega (arith, length-written bk, c.node_count.ensures, c.entry_count.ensures), refl, refl, refl)

pub loop-i-preserved : goal.loop-i-preserved
loop-i-preserved g c =
    let ns = (g.B.ReadableBook.meaning c.args.book.now).nodes in
    let below : c.loop-i.i < length ns = omega arith in
    let is = c.node_bytes.ensures ∙ ap node_bytes c.node_at.ensures in
    (omega arith, record_more node_bytes [] c.args.out.now c.loop-i.out c.loop-i.at ns c.loop-i.i c.loop-i.invariant.1 c.put-at.new.out _ c.put-at.result Absent below is c.put-at.ensures.end c.put-at.ensures.written)

pub entry_bytes-requires : goal.entry_bytes-requires
entry_bytes-requires g c =
    let bk = g.B.ReadableBook.meaning c.args.book.now in
    let formed = All-get_or (λ l. entry_well_formed (length bk.nodes) l.entry ≡ true) bk.entries c.loop-j.j no_stored_entry (omega arith) (g.B.ReadableBook.lawful c.args.book.now).well_formed.entries in
    ap (λ l. is_entry l.entry) c.entry_at.ensures ∙ (entry_parts (length bk.nodes) _ formed).0

pub loop-j-preserved : goal.loop-j-preserved
loop-j-preserved g c =
    let bk = g.B.ReadableBook.meaning c.args.book.now in
    let below : c.loop-j.j < length bk.entries = omega arith in
    let is = c.entry_bytes.ensures ∙ ap entry_bytes c.entry_at.ensures in
    (omega arith, record_more entry_bytes (flat_map node_bytes bk.nodes) c.args.out.now c.loop-j.out c.loop-j.at bk.entries c.loop-j.j c.loop-j.invariant.1 c.put-at-in-loop-j.new.out _ c.put-at-in-loop-j.result no_stored_entry below is c.put-at-in-loop-j.ensures.end c.put-at-in-loop-j.ensures.written)

pub returns : goal.returns
returns g c =
    let bk = g.B.ReadableBook.meaning c.args.book.now in
    let trailer = c.trailer_bytes.ensures ∙ (λ i. trailer_bytes (c.node_count.ensures i) (c.entry_count.ensures i)) in
    let records = records_all entry_bytes (flat_map node_bytes bk.nodes) c.args.out.now c.loop-j.out c.loop-j.at bk.entries c.loop-j.j c.loop-j.invariant.1 (omega arith) in
    let whole = whole_written bk c.args.out.now c.put.new.out c.put.result trailer (front_more _ c.args.out.now c.loop-j.out c.put.new.out _ c.loop-j.at c.put.result records c.put.ensures.end c.put.ensures.written) in
    record {
      answer = (whole.long, whole.is);
      trip = round_trip bk (g.B.ReadableBook.lawful c.args.book.now) _ (ap (take c.put.result) whole.is ∙ take_at (book_bytes bk) (drop c.put.result c.args.out.now) c.put.result (sym whole.long));
    }
