use Rattle.std.proofs.Common.{◌≡◌, ℕ, ◌<◌, sym, subst, inl, rules}
use Rattle.std.proofs.lemmas.Result.{err_from_is_err_and}
use Rattle.logic.specs.Bytes.{byte}
use Rattle.sealed.specs.Writing.{SealedAs}
use Rattle.sealed.specs.Frames.{book_in}
use Rattle.sealed.proofs.Opening.{stood_lawful}
use Rattle.sealed.proofs.Passing.{passed_sealed}
use Rattle.sealed.proofs.Checking.{bad_unsealed}
use Rattle.sealed.proofs.sealed_book.SealedBook.read.Goals as goal

pub returns-in_err-frame-clause-refused : goal.returns-in_err-frame-clause-refused
returns-in_err-frame-clause-refused c =
    let bad = c.in_err-frame.ensures in
    let err = err_from_is_err_and c.from_residual.result c.from_residual.ensures.1 in
    rw (err.1, err.2) (bad_unsealed _ _ bad, bad)

pub invariant_of-result : goal.invariant_of-result
invariant_of-result c =
    let f = c.in_ok-frame.frame in
    let p = inl c.in_ok-frame.ensures.1 in
    record { stands = ∣ p ∣₁; lawful = ∣ stood_lawful f.bytes.now f.counts.nodes f.counts.entries p ∣₁ }

pub returns-clause-granted : goal.returns-clause-granted
returns-clause-granted c =
    let f = c.in_ok-frame.frame in
    let is : f.bytes.now ≡ c.args.bytes.now = c.in_ok-frame.ensures.0 in
    let bytes : (k : ℕ) → byte c.args.bytes.now k < 256 = search rules in
    subst (λ b. SealedAs b (book_in f)) is (passed_sealed f.bytes.now f.counts.nodes f.counts.entries c.in_ok-frame.ensures.1 (subst (λ b. (k : ℕ) → byte b k < 256) (sym is) bytes))
