use Rattle.std.proofs.Common.{◌+◌, cond, eqb, length, sym, ap, ◌∙◌, arith}
use Rattle.std.proofs.lemmas.List.{get_or_push, length_push, length-set}
use Rattle.logic.specs.Books.{no_stored_entry, stored_at, struck}
use Rattle.books.specs.Replay.{recorded}
use Rattle.books.proofs.Replays.{get_or-push_other, read_strike}
use Rattle.books.proofs.journal.after_record.Goals as goal
use Rattle.books.proofs.journal.after_record.Goals.{then-seen-i, else-seen-i}

pub returns-after-seen-i : goal.returns-after-seen-i
returns-after-seen-i c = record {
  reads = λ bk h k.
      (let is = sym c.in-Entry.is in
      let there = ap (λ r. stored_at (recorded bk r) c.args.i) is in
      let many = ap (λ r. length (recorded bk r).entries) is in
      (elim c.if-seen-i.branch [ then-seen-i w ↦ w.read-is ∙ w.taken-read.ensures ∙ sym (get_or_push bk.entries _ no_stored_entry c.args.i (sym k ∙ w.if-seen-i.true)) ∙ there | else-seen-i w ↦ w.read-is ∙ h ∙ sym (get_or-push_other bk.entries _ no_stored_entry c.args.i (λ e. w.if-seen-i.false (k ∙ e))) ∙ there ], ap (λ n. n + 1) k ∙ sym (length_push bk.entries _) ∙ many));
  few = omega arith;
}

pub returns-in-Strike : goal.returns-in-Strike
returns-in-Strike c = record {
  reads = λ bk h k.
      (let is = sym c.in-Strike.is in
      let j = c.in-Strike.j in
      let i = c.args.i in
      let stored = c.after_strike.ensures ∙ ap (λ l. cond (eqb j i) (struck l) l) h ∙ sym (read_strike bk.entries j i) in
      (stored ∙ ap (λ r. stored_at (recorded bk r) i) is, k ∙ sym (length-set bk.entries j (struck (stored_at bk j))) ∙ ap (λ r. length (recorded bk r).entries) is));
  few = omega arith;
}
