use Rattle.verdict.proofs.SampleBook.{samples, sealed, misplaced}
use Rattle.verdict.proofs.SampleOrders.{one_filled, neither_filled, unlawful}
use Rattle.verdict.proofs.SampleRefuted.{closed, list_full, no_rule}
use Rattle.verdict.proofs.SampleShown.{shown, entry_fails}
use Rattle.verdict.proofs.rows.rows_hold.Goals as goal

pub returns : goal.returns
returns c = record {
  samples = samples;
  shown = λ before fill h. shown fill.left (one_filled before fill.left fill.answer h);
  entry_fails = λ before fill h. entry_fails fill.left (neither_filled before fill.left fill.answer h);
  unlawful = unlawful;
  closed = closed;
  list_full = list_full;
  no_rule = no_rule;
  sealed = sealed;
  misplaced = misplaced;
}
