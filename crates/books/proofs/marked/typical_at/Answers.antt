use Rattle.std.proofs.Common.{[], sym, ap, ◌∙◌}
use Rattle.logic.specs.Concepts.{read, is_typical}
use Rattle.logic.proofs.Reading.{typical_at}
use Rattle.books.proofs.marked.typical_at.Goals as goal

pub returns : goal.returns
returns g c =
    c.typical_node.ensures [] ∙ ap (λ n. is_typical (read [] n)) c.node_at.ensures ∙ sym (typical_at [] (g.B.ReadableBook.meaning c.args.book.now).nodes c.args.i)
