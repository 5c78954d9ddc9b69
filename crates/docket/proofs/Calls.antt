-- Calls as events of a run. Assumes nothing.
use Rattle.std.proofs.Common.{◌≡◌, List, [], ◌∷◌, map, Ok, Err, sym, refl, subst}
use Rattle.logic.specs.Books.{Book}
use Rattle.books.specs.Calls.{BookCall, BookCall.node, BookCall.enter, BookCall.strike, Called, CalledAll.none, CalledAll.more}
use Rattle.docket.specs.Events.{Event}
use Rattle.docket.specs.Changes.{State, change, book_after, granted_event, standing_after, used_after, after}
use Rattle.docket.specs.Answers.{event_of, Answered}
use Rattle.docket.specs.Runs.{Moves, MovesAll, MovesAll.none, MovesAll.more}
use Rattle.docket.specs.Runs.{Contents, state_of, Reached}
use Rattle.docket.specs.Laws.{BookCallsLift}
use Rattle.docket.proofs.Law.{run_on}

pub one : {e : Event} {s t : State} → Moves e s t → MovesAll (e ∷ []) s t
one m = more none m

-- from where a run has led, the call leads on
pub on : (e : Event) (s t : Contents) → Reached s → Moves e (state_of s) (state_of t) → Reached t
on e s t r m = (e ∷ r.0, run_on r.0 (e ∷ []) (state_of s) (state_of t) r.1 (one m))

-- a call of the book: it is answered as a call of the docket, and changes the book alike
pub book_answered : (c : BookCall) (s : State) (bk : Book) → Called c s.book bk → Answered s.book s.standing (event_of c) × (bk ≡ book_after (change (event_of c)) s.book)
book_answered (node raw (Ok i)) s bk c = ((Ok i, refl, (bk, c)), c.2)
book_answered (node raw (Err f)) s bk c = ((Err f, refl, (bk, c)), c.1)
book_answered (enter raw (Ok i)) s bk c = ((Ok i, refl, (bk, c)), c.2)
book_answered (enter raw (Err f)) s bk c = ((Err f, refl, (bk, c)), c.1)
book_answered (strike i (Ok u)) s bk c = ((Ok u, refl, (bk, c)), c.1)
book_answered (strike i (Err f)) s bk c = ((Err f, refl, (bk, c)), c.1)

-- a call moves the docket by its answer and its change
pub made : (e : Event) (s t : State) → Answered s.book s.standing e → t.book ≡ book_after (change e) s.book → t.standing ≡ standing_after (granted_event s.used (change e)) s.standing → t.used ≡ used_after (change e) s.used → Moves e s t
made e s t answer book standing used = record { answer = answer; state = rw (← book, ← standing, ← used) refl }

pub book_moves : (c : BookCall) (s t : State) → Called c s.book t.book → t.standing ≡ standing_after (granted_event s.used (change (event_of c))) s.standing → t.used ≡ used_after (change (event_of c)) s.used → Moves (event_of c) s t
book_moves c s t called standing used = let a = book_answered c s t.book called in made (event_of c) s t a.0 a.1 standing used

lift_after : (cs : List BookCall) (c : BookCall) (s t : State) (bk ck : Book) → t.book ≡ bk → MovesAll (map event_of cs) s t → Called c bk ck → (u : State) × (u.book ≡ ck) × MovesAll (event_of c ∷ map event_of cs) s u
lift_after cs c s t bk ck same ms called =
    let a = book_answered c t ck (subst (λ b. Called c b ck) (sym same) called) in
    (after (change (event_of c)) t, sym a.1, more ms (record { answer = a.0; state = refl }))

pub book_calls_lift : BookCallsLift
book_calls_lift cs s bk none = (s, refl, none)
book_calls_lift cs s bk (more {cs = ds} {c = c} {bk' = ck} called last) =
    let l = book_calls_lift ds s ck called in
    lift_after ds c s l.0 ck bk l.1 l.2 last
