use Rattle.std.proofs.Common.{◌≡◌, Bool, true, List, [], ◌∷◌, ◌++◌, take, sym, ap, ◌∙◌, subst}
use Rattle.std.specs.List.{FoldsTo}
use Rattle.std.proofs.lemmas.List.{append-nil, append_assoc}
use Rattle.judge.specs.declared.watch.TakenStep.{TakenStep}
use Rattle.judge.specs.Blanks.{lengths}
use Rattle.judge.specs.Steps.{decoded}
use Rattle.judge.specs.Traces.{Trace, steps_taken}
use Rattle.walkthrough.specs.declared.tracing.Recorder.{Recorder}
use Rattle.walkthrough.proofs.tracing.work.Goals as goal

-- what is told one after the other stands behind what was kept
kept : {W : Type 0} (transition : W → TakenStep → W → Type 0) (complete : W → Bool) (items : W → List TakenStep) → ((p q : W) (t : TakenStep) → transition p t q → complete q ≡ true → (complete p ≡ true) × (items q ≡ items p ++ t ∷ [])) → (ts : List TakenStep) (p q : W) → FoldsTo transition p ts q → complete q ≡ true → (complete p ≡ true) × (items q ≡ items p ++ ts)
kept transition complete items one [] p q e h = (ap complete e ∙ h, sym (append-nil (items p) ∙ ap items e))
kept transition complete items one (t ∷ ts) p q w h =
    let rest = kept transition complete items one ts w.0 q w.2 h in
    let first = one p w.0 t w.1 rest.0 in
    (first.0, rest.1 ∙ ap (λ v. v ++ ts) first.1 ∙ append_assoc (items p) (t ∷ []) ts)

pub returns : goal.returns
returns g c =
    let ss = decoded c.args.bytes.now in
    let watched = c.refute_watched-answer.ensures.watched in
    let all = kept _ (λ (r : Recorder). r.complete) (λ (r : Recorder). r.steps.items) (λ p q t h. h) watched.0 _ _ watched.2 c.if-not-recorder.false in (
      subst (Trace (g.B.ReadableBook.meaning c.args.book.now) (lengths c.args.constraints.now c.args.edges.now c.args.splits.now) (take (steps_taken ss c.refute_watched-answer.result) ss))
          (sym (all.1 ∙ ap (λ v. v ++ watched.0) c.new.ensures.items)) watched.1,
      c.refute_watched-answer.ensures.answer,
    )
