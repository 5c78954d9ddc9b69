-- Results of which the error is made into another one. Assumes nothing.
use Rattle.std.proofs.Common.{◌≡◌, true, Ok, Err, Result, MatchResult, sym, refl, ap, ◌∙◌, subst}
use Rattle.std.specs.Result.{IsErrAnd, is_ok}
use Rattle.std.proofs.lemmas.Bool.{false≢true}
use Rattle.std.proofs.lemmas.Result.{err_from_is_err_and}

-- the error that is made of a lower one
pub err_is : {T F : Type 0} {f : F} (m : Result T F) → IsErrAnd m (λ e. e ≡ f) → m ≡ Err f
err_is m made = let p = err_from_is_err_and m made in p.1 ∙ ap Err p.2

-- what a result is, of which another is made by a change of its error
pub mapped_ok : {T E F : Type 0} (r : Result T E) (m : Result T F) (t : T) (P : E → F → Type 0) → MatchResult r (λ x. m ≡ Ok x) (λ e. IsErrAnd m (P e)) → m ≡ Ok t → r ≡ Ok t
mapped_ok {T} {E} {F} (Ok x) m t P h e = let q : ◌≡◌ {A = Result T F} (Ok x) (Ok t) = sym h ∙ e in cc
mapped_ok (Err x) m t P h e = absurd (subst (λ v. IsErrAnd v (P x)) e h)

pub mapped_err : {T E F : Type 0} (r : Result T E) (m : Result T F) (f : F) (P : E → F → Type 0) → MatchResult r (λ x. m ≡ Ok x) (λ e. IsErrAnd m (P e)) → m ≡ Err f → (e : E) × (r ≡ Err e) × P e f
mapped_err (Ok x) m f P h e = absurd (false≢true (subst (λ v. is_ok v ≡ true) (sym h ∙ e) refl))
mapped_err (Err x) m f P h e = (x, refl, subst (λ v. IsErrAnd v (P x)) e h)
