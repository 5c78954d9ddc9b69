use Rattle.books.proofs.Keeping.{kept_new}
use Rattle.books.proofs.journal.JournalEditableBook.new.Goals as goal

pub invariant_of-result : goal.invariant_of-result
invariant_of-result c =
    let made = c.in_ok-records.ensures in
    let k = kept_new _ _ made.items made.len in
    record {
      room = made.capacity;
      counted_nodes = k.counted_nodes;
      counted_entries = k.counted_entries;
      counted = k.counted;
      few_nodes = k.few_nodes;
      few_entries = k.few_entries;
      marked = k.marked;
      lawful = ∣ k.lawful ∣₁;
    }
