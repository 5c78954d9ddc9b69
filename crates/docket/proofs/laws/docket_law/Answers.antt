use Rattle.docket.proofs.Law.{run_on}
use Rattle.docket.proofs.Law.{docket_law, models_handed, tableaux_handed}
use Rattle.docket.proofs.Calls.{book_calls_lift}
use Rattle.docket.proofs.laws.docket_law.Goals as goal

pub returns : goal.returns
returns c =
    let models = models_handed c.models_encoded.ensures in
    let tableaux = tableaux_handed c.tableaux_have_bytes.ensures in
    record {
      law = docket_law models tableaux;
      extend = run_on;
      book_calls = book_calls_lift;
      models = models;
      tableaux = tableaux;
    }
