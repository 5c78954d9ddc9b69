use Rattle.std.proofs.Common.{ℕ, ◌+◌, ◌*◌, ◌≤◌, cond, ◌&&◌, ltb, List, [], sym, ap, rules}
use mathlib.Core.Path.{fun_ext}
use Rattle.std.proofs.lemmas.Bool.{le-ltb}
use Rattle.logic.specs.Bytes.{byte, u32_at}
use Rattle.orders.specs.Masks.{Tabulates}
use Rattle.models.specs.Interpretations.{interpretation_of}
use Rattle.orders.proofs.Making.{made_at, made_table}
use Rattle.models.proofs.fields.Tables.from_bytes.Goals as goal

-- past the last role nothing is said
no_row : (bs : List ℕ) (r : ℕ) → 16 ≤ r → Tabulates ((interpretation_of bs).successors r) []
no_row bs r l x = ap (λ b. cond (b && ltb x 32) (u32_at bs (257 + 4 * (32 * r + x))) 0) (sym (le-ltb r 16 l))

pub returns : goal.returns
returns c = λ t.
    let bs = c.args.bytes.now in
    record {
      size = c.byte_at.ensures t;
      names = fun_ext (made_table (λ a. u32_at bs (1 + 4 * a)) c.from_fn.ensures.items (λ a y q l h. search rules)) t;
      successors = fun_ext (λ r. fun_ext (made_at (λ r row. Tabulates ((interpretation_of bs).successors r) row) c.from_fn-2.ensures.items (λ r row q l h. search rules) [] (no_row bs) r)) t;
      individual = fun_ext (made_table (λ a. byte bs (2305 + a)) c.from_fn-3.ensures.items (λ a y q l h. search rules)) t;
    }
