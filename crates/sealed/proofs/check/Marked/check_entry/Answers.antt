use Rattle.std.proofs.Common.{◌≡◌, ◌<◌, Err, [], length, sym, ap, ◌∙◌, arith, rules}
use Rattle.logic.specs.Concepts.{read, is_typical}
use Rattle.logic.specs.Books.{Book}
use Rattle.logic.specs.Refusals.{entry_refusal, entry_unfit}
use Rattle.logic.specs.Written.{entry_of}
use Rattle.logic.proofs.Reading.{typical_at}
use Rattle.books.specs.Answers.{Judged}
use Rattle.sealed.specs.declared.faults.CheckFault.TheVariants.{BadRecord}
use Rattle.sealed.specs.Reading.{raw_entry_at, entry_start}
use Rattle.sealed.specs.Frames.{first_nodes, first_entries, entry_place}
use Rattle.sealed.proofs.Framing.{frame_nodes}
use Rattle.sealed.proofs.Rows.{length-entries_in}
use Rattle.sealed.proofs.Checking.{with_room, judged_ok, judged_err}
use Rattle.sealed.proofs.check.Marked.check_entry.Goals as goal
use Rattle.sealed.proofs.check.Marked.check_entry.Goals.{After-fitting_entry-judged}

-- the nodes, and the entries before this one
abbrev before : After-fitting_entry-judged → Book
before c = let f = c.args.self.now.frame in record { nodes = first_nodes f f.counts.nodes; entries = first_entries f c.args.j }

-- there is room for the entry, so that it is refused only if it does not fit
refusal : (c : After-fitting_entry-judged) → entry_refusal (before c) (raw_entry_at c.args.self.now.frame.bytes.now (entry_place c.args.self.now.frame c.args.j)) ≡ entry_unfit (before c) c.raw_entry_at-raw.result
refusal c =
    let f = c.args.self.now.frame in
    let room : length (before c).entries < 256 = omega (arith, length-entries_in f.bytes.now (entry_start f.bytes.now f.counts.entries) c.args.j, f.few_entries, c.requires) in
    let is = c.raw_entry_at-raw.ensures ∙ ap (raw_entry_at f.bytes.now) c.entry_place-at.ensures.place in
    ap (entry_refusal (before c)) (sym is) ∙ with_room 256 (length (before c).entries) (entry_unfit (before c) c.raw_entry_at-raw.result) room

-- whether it fits
judged : (c : After-fitting_entry-judged) → Judged (entry_unfit (before c) c.raw_entry_at-raw.result) (entry_of c.raw_entry_at-raw.result) c.fitting_entry-judged.result
judged c =
    let m = c.args.self.now in
    let nodes = (before c).nodes in
    let typical = typical_at [] nodes c.raw_entry_at-raw.result.a ∙ sym (c.typical_node-typical_a.ensures [] ∙ ap (λ n. is_typical (read [] n)) c.node_at.ensures) in
    c.fitting_entry-judged.ensures.books (before c) (frame_nodes m.frame) typical (c.plain_operands-plain_operands.ensures nodes m.marked)

pub returns : goal.returns
returns c =
    let at = (goal.at.returns c).After-fitting_entry-judged in
    let h = judged_ok _ c.fitting_entry-judged.result c.map_err.result _ (judged at) c.in_ok-map_err.field-0 c.map_err.ensures.cases c.in_ok-map_err.was in
    refusal at ∙ h.0

pub returns-in_err-map_err : goal.returns-in_err-map_err
returns-in_err-map_err c =
    let at = (goal.at.returns-in_err-map_err c).After-fitting_entry-judged in
    let h = judged_err _ c.fitting_entry-judged.result c.map_err.result _ (judged at) c.in_err-map_err.field-0.0 c.map_err.ensures.cases c.in_err-map_err.was in
    let fault : c.from_residual.result ≡ Err (BadRecord h.0 c.entry_place-at.result) = search rules in
    rw fault (refusal at ∙ h.2, c.entry_place-at.ensures.place)
