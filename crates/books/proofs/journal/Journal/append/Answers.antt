use Rattle.std.proofs.Common.{arith}
use Rattle.books.proofs.Keeping.{room, kept_at}
use Rattle.books.proofs.journal.Journal.append.Goals as goal

pub push_reserved-requires : goal.push_reserved-requires
push_reserved-requires c = omega (arith, room c.requires, c.args.self.now.room)

pub invariant_of-self : goal.invariant_of-self
invariant_of-self c =
    let after = c.push_reserved.ensures in
    let k = kept_at after.items after.len c.requires in
    record {
      room = omega (arith, c.args.self.now.room, after.capacity);
      counted_nodes = k.counted_nodes;
      counted_entries = k.counted_entries;
      counted = k.counted;
      few_nodes = k.few_nodes;
      few_entries = k.few_entries;
      marked = k.marked;
      lawful = ∣ k.lawful ∣₁;
    }
