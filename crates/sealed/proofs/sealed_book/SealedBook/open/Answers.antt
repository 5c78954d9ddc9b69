use Rattle.std.proofs.Common.{◌≡◌, ℕ, ◌<◌, sym, subst, rules}
use Rattle.logic.specs.Bytes.{byte}
use Rattle.sealed.specs.Frames.{book_in}
use Rattle.sealed.specs.Checks.{Opened}
use Rattle.sealed.proofs.Opening.{Counted, counted, counted_bytes, counted_stands, counted_lawful, opened}
use Rattle.sealed.proofs.sealed_book.SealedBook.open.Goals as goal

pub invariant_of-result : goal.invariant_of-result
invariant_of-result c =
    let none = c.empty.ensures in
    let f = c.unwrap_or-frame.result in
    let h : Counted f = rw c.unwrap_or-frame.ensures (counted c.args.bytes.now c.checked.result c.empty.result c.checked.ensures none.same none.no_nodes none.no_entries) in
    record { stands = counted_stands f h; lawful = ∣ counted_lawful f h ∣₁ }

pub returns-clause-opened : goal.returns-clause-opened
returns-clause-opened c =
    let bs = c.args.bytes.now in
    let none = c.empty.ensures in
    let f = c.unwrap_or-frame.result in
    let h : Counted f = rw c.unwrap_or-frame.ensures (counted bs c.checked.result c.empty.result c.checked.ensures none.same none.no_nodes none.no_entries) in
    let is : f.bytes.now ≡ bs = rw c.unwrap_or-frame.ensures (counted_bytes bs c.checked.result c.empty.result c.checked.ensures none.same) in
    let bytes : (k : ℕ) → byte bs k < 256 = search rules in
    subst (λ b. Opened b (book_in f)) is (opened f h (subst (λ b. (k : ℕ) → byte b k < 256) (sym is) bytes))
