use Rattle.std.proofs.Common.{length, ◌∙◌}
use Rattle.logic.specs.Written.{entry_of}
use Rattle.logic.specs.Books.{with_entry, with_strike}
use Rattle.repeats.proofs.Copying.{struck_copied}
use Rattle.repeats.proofs.copy.copy_entry.Goals as goal

pub returns-in-Ok-strike : goal.returns-in-Ok-strike
returns-in-Ok-strike g c =
    let entered = c.in-Ok.ensures.answer in
    let before = c.requires.before in
    c.in-Ok-strike.ensures.1
    ∙ (λ i. with_strike (entered.2 i) (entered.1 i))
    ∙ (λ i. with_strike (with_entry (before i) (entry_of c.from.result)) (length (before i).entries))
    ∙ struck_copied _ c.args.j c.entry_at-stored.result c.from.result c.requires.within c.entry_at-stored.ensures c.if-stored.false c.from.ensures
