use Rattle.std.proofs.Common.{◌+◌, ◌*◌, cond, ◌&&◌, ltb, sym, ap, ◌∙◌, rules}
use Rattle.std.proofs.lemmas.Bool.{lt-ltb}
use Rattle.logic.specs.Bytes.{u32_at}
use Rattle.orders.proofs.Making.{made_table}
use Rattle.models.proofs.fields.fn.Tables.from_bytes.from_fn+2.Goals as goal

pub returns : goal.returns
returns c = λ x.
    let bs = c.captures.bytes.now in
    let r = c.args.r in
    made_table (λ x. u32_at bs (257 + 4 * (32 * r + x))) c.from_fn.ensures.items (λ x y q l h. search rules) x
    ∙ ap (λ b. cond (b && ltb x 32) (u32_at bs (257 + 4 * (32 * r + x))) 0) (sym (lt-ltb r 16 c.requires))
