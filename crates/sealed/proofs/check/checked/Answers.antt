use Rattle.std.proofs.Common.{◌≡◌, sym, subst}
use Rattle.std.proofs.lemmas.Option.{MatchOption-at_some}
use Rattle.std.proofs.lemmas.Result.{err_from_is_err_and}
use Rattle.sealed.specs.Frames.{EndsInTrailer}
use Rattle.sealed.proofs.Checking.{bad_node, bad_entry}
use Rattle.sealed.proofs.check.checked.Goals as goal

pub returns-in_err-check_nodes : goal.returns-in_err-check_nodes
returns-in_err-check_nodes c =
    let bs = c.args.bytes.now in
    let f = c.in_ok-frame.frame in
    let h = MatchOption-at_some _ _ f c.in_ok-frame.ensures.ok_part c.read.ensures in
    let p = err_from_is_err_and c.from_residual-in_err-check_nodes.result c.from_residual-in_err-check_nodes.ensures.1 in
    rw (p.1, p.2) (bad_node bs f h.0 h.1 _ c.in_err-check_nodes.ensures)

pub returns-in_err-check_entries : goal.returns-in_err-check_entries
returns-in_err-check_entries c =
    let bs = c.args.bytes.now in
    let m = c.in_ok-check_nodes.field-0 in
    let h = MatchOption-at_some _ _ c.in_ok-frame.frame c.in_ok-frame.ensures.ok_part c.read.ensures in
    let k = subst (λ f. (f.bytes.now ≡ bs) × EndsInTrailer f) (sym c.in_ok-check_nodes.ensures) h in
    let p = err_from_is_err_and c.from_residual-in_err-check_entries.result c.from_residual-in_err-check_entries.ensures.1 in
    rw (p.1, p.2) (bad_entry bs m.frame k.0 k.1 _ m.granted c.in_err-check_entries.ensures)
