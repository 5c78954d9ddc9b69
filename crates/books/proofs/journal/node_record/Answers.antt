use Rattle.std.proofs.Common.{sym, ap, ◌∙◌, rules, tests}
use Rattle.std.proofs.lemmas.Iterator.{YieldsList-from_slice}
use Rattle.std.proofs.lemmas.Iterator.Adapters.{option_map_id}
use Rattle.std.proofs.lemmas.Iterator.Consumers.{YieldsList-at, YieldsList-from_filter_map, nth_from_yields_List}
use Rattle.std.proofs.lemmas.Option.{unwrap_or-slice_get}
use Rattle.std.specs.Option.{unwrap_or}
use Rattle.books.specs.Marks.{no_node}
use Rattle.books.specs.Replay.{node_in, recorded_nodes}
use Rattle.books.proofs.journal.node_record.Goals as goal

pub returns : goal.returns
returns c =
    let found = nth_from_yields_List c.nth.result c.nth.new.self c.args.i c.nth.ensures.ran (YieldsList-from_filter_map _ node_in (YieldsList-at c.filter_map.ensures.source (YieldsList-from_slice c.args.records.now c.iter.ensures.rest)) c.filter_map.ensures.closure (λ x r q k. search (rules, tests))) in
    c.unwrap_or.ensures ∙ ap (λ o. unwrap_or o no_node) (sym (option_map_id c.nth.result) ∙ found) ∙ unwrap_or-slice_get (recorded_nodes c.args.records.now) c.args.i no_node
