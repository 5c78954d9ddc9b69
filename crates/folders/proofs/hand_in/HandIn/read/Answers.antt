use Rattle.std.proofs.Common.{Some, None}
use Rattle.folders.proofs.Reading.{counts, steps_there, steps_missing, files, in_folder, book_fails, steps_fail, model_fails, pairs_fail, handed_on}
use Rattle.folders.proofs.hand_in.HandIn.read.Goals as goal

pub returns-in_err-book-clause-failed : goal.returns-in_err-book-clause-failed
returns-in_err-book-clause-failed g c =
    let known = g.F.Folder.known c.args.folder.now in
    let f = c.in_err-book.field-0.0 in
    handed_on _ f _ c.from_residual.ensures.1 (book_fails known f c.in_err-book.ensures.named c.in_err-book.ensures.failed)

pub returns-in_err-steps-clause-failed : goal.returns-in_err-steps-clause-failed
returns-in_err-steps-clause-failed g c =
    let known = g.F.Folder.known c.args.folder.now in
    let f = c.in_err-steps.field-0.0 in
    handed_on _ f _ c.from_residual-in_err-steps.ensures.1 (steps_fail known f c.in_err-steps.ensures.named c.in_err-steps.ensures.failed)

pub returns-in_err-model-in-None-clause-failed : goal.returns-in_err-model-in-None-clause-failed
returns-in_err-model-in-None-clause-failed g c =
    let known = g.F.Folder.known c.args.folder.now in
    let f = c.in_err-model-in-None.field-0.0 in
    let missing = rw c.in-None.is at c.in_ok-steps.ensures.read in
    handed_on _ f _ c.from_residual-in_err-model-in-None.ensures.1
    (model_fails known f missing c.in_err-model-in-None.ensures.named c.in_err-model-in-None.ensures.failed)

pub returns-in_err-pairs-in-None-clause-failed : goal.returns-in_err-pairs-in-None-clause-failed
returns-in_err-pairs-in-None-clause-failed g c =
    let known = g.F.Folder.known c.args.folder.now in
    let f = c.in_err-pairs-in-None.field-0.0 in
    let missing = rw c.in-None.is at c.in_ok-steps.ensures.read in
    handed_on _ f _ c.from_residual-in_err-pairs-in-None.ensures.1
    (pairs_fail known f missing c.in_err-pairs-in-None.ensures.named c.in_err-pairs-in-None.ensures.failed)

pub returns-in-Some-clause-read : goal.returns-in-Some-clause-read
returns-in-Some-clause-read g c =
    let known = g.F.Folder.known c.args.folder.now in
    let book = c.in_ok-book.book.items in
    let steps = c.in-Some.steps.items in
    let read = rw c.in-Some.is at c.in_ok-steps.ensures.read in (
      files known (Some book) (Some steps) None None,
      in_folder known (Some book) (Some steps) None None,
      (counts _ book c.in_ok-book.ensures.read, steps_there _ steps read),
    )

pub returns-in_ok-pairs-in-None-clause-read : goal.returns-in_ok-pairs-in-None-clause-read
returns-in_ok-pairs-in-None-clause-read g c =
    let known = g.F.Folder.known c.args.folder.now in
    let book = c.in_ok-book.book.items in
    let model = c.in_ok-model-in-None.model.items in
    let pairs = c.in_ok-pairs-in-None.pairs.items in
    let missing = rw c.in-None.is at c.in_ok-steps.ensures.read in (
      files known (Some book) None (Some model) (Some pairs),
      in_folder known (Some book) None (Some model) (Some pairs),
      (
        counts _ book c.in_ok-book.ensures.read,
        steps_missing _ missing,
        counts _ model c.in_ok-model-in-None.ensures.read,
        counts _ pairs c.in_ok-pairs-in-None.ensures.read,
      ),
    )
