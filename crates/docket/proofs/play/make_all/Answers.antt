use Rattle.std.proofs.Common.{◌≡◌, ◌+◌, [], ◌∷◌, ◌++◌, length, take, sym, ap, ◌∙◌, subst}
use Rattle.std.proofs.lemmas.List.{take_more, take_all}
use Rattle.judge.specs.Blanks.{lengths}
use Rattle.docket.specs.Plays.{Asks, Played, Played.none, Played.more}
use Rattle.docket.proofs.Law.{run_on}
use Rattle.docket.proofs.play.make_all.Goals as goal

pub loop-call-init : goal.loop-call-init
loop-call-init g c = ([], none, c.in_ok-docket.ensures)

pub loop-call-preserved : goal.loop-call-preserved
loop-call-preserved g c =
    let meaning = g.O.Order.meaning in
    let ls = lengths c.args.constraints.now c.args.edges.now c.args.splits.now in
    let len = length c.args.sets.now in
    let calls = c.args.calls.now in
    let i = c.loop-call.call-index in
    let call = c.call-item.result in
    let before = c.loop-call.invariant in
    let made = c.make.ensures in
    let asked : Asks meaning ls len call made.0 = rw (← c.loop-call.auto.constraints, ← c.loop-call.auto.edges, ← c.loop-call.auto.splits, ← c.loop-call.auto.sets) made.1 in
    let grown : take (i + 1) calls ≡ take i calls ++ call ∷ [] = take_more calls i call c.loop-call-test.true ∙ ap (λ x. take i calls ++ x ∷ []) (sym c.call-item.is) in (
      made.0 ∷ before.0,
      subst (λ cs. Played meaning ls len cs (made.0 ∷ before.0)) (sym grown) (more call before.1 asked),
      run_on before.0 (made.0 ∷ []) _ _ before.2 made.2,
    )

pub returns : goal.returns
returns g c =
    let ls = lengths c.args.constraints.now c.args.edges.now c.args.splits.now in
    let all = c.loop-call.invariant in (
      all.0,
      subst (λ cs. Played g.O.Order.meaning ls (length c.args.sets.now) cs all.0) (take_all _ _ c.loop-call-test.false) all.1,
      all.2,
      c.docket_law.ensures.law all.0 _ all.2,
    )
