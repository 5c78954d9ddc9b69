-- What every run keeps, and the law of all runs. Assumes nothing.
use Rattle.std.proofs.Common.{◌≡◌, ℕ, Bool, List, [], ◌∷◌, ◌++◌, Ok, Err, Result, IfSome, sym, refl, ap, ◌∙◌, subst, ◌≢◌, ◌≤◌, true, false, ◌↔◌, length, IsOk, if◌then◌else◌}
use Rattle.std.proofs.Math.Path.{fun_ext}
use Rattle.std.specs.Result.{result_map_both, is_ok}
use Rattle.logic.specs.declared.records.StoredEntry.{StoredEntry}
use Rattle.logic.specs.declared.tableau.Step.{Step}
use Rattle.logic.specs.Books.{Book, empty}
use Rattle.logic.specs.Limits.{Lengths}
use Rattle.logic.specs.Tableaux.{names}
use Rattle.logic.proofs.NamedLive.{named_live}
use Rattle.logic.proofs.Refusing.{node_granted, entry_granted}
use Rattle.models.specs.Interpretations.{interpretation_of}
use Rattle.models.specs.Meanings.{model_of, Compatible}
use Rattle.judge.specs.declared.used.Used.{Used}
use Rattle.judge.specs.declared.faults.RefuteFault.{RefuteFault}
use Rattle.judge.specs.Members.{member_count}
use Rattle.judge.specs.Steps.{decoded}
use Rattle.judge.specs.Refutations.{RefuteAnswer, Refutation}
use Rattle.docket.specs.declared.fault.Fault.{Fault}
use Rattle.docket.specs.declared.fault.Fault.TheVariants as fault
use Rattle.docket.specs.declared.standing.Standing.{Standing}
use Rattle.docket.specs.Standings.{Occurs, next}
use Rattle.docket.specs.Events.{Event, Event.node, Event.enter, Event.strike, Event.refute, Event.show, Event.standing}
use Rattle.docket.specs.Changes.{Change, tableau_accepted, if_granted, change, State, granted_event, standing_after, used_after, after, entry_taken, entry_struck}
use Rattle.docket.specs.Answers.{passed_on, PassesOn, RefuteCount, Answered}
use Rattle.docket.specs.Runs.{Moves, MovesAll, MovesAll.none, MovesAll.more, New, Run}
use Rattle.docket.specs.Histories.{last_steps, steps_after, Tabled, Stood, Stood.opened, Stood.followed, Lifts, Takes}
use Rattle.docket.proofs.Changes.{Core, core_no_model}
use Rattle.docket.proofs.Kept.{Backed, BookKept, book_kept, book_new, Justified, justified_after, occurs}
use Rattle.std.proofs.lemmas.Bool.{false≢true}
use Rattle.logic.specs.declared.records.Entry.{Entry}
use Rattle.logic.specs.Models.{Model}
use Rattle.logic.specs.Satisfaction.{Satisfies}
use Rattle.orders.specs.Masks.{Preference}
use Rattle.models.specs.Encodings.{model_bytes, ModelsEncoded}
use Rattle.judge.specs.Laws.{TableauxHaveBytes}
use Rattle.docket.specs.declared.standing.Standing.TheVariants.{Open, Refuted, Shown}
use Rattle.docket.specs.declared.standing.Granted.TheVariants.{Closed, Satisfied}
use Rattle.docket.specs.Laws.{Handed, RefuteLaw, StepLaw, DocketLaw, ModelsHanded, TableauxHanded}

pub record KeptRun (h : List Event) (s : State) : Type 0 where
  pub book : BookKept h s.book
  pub justified : Justified s.standing s.book s.used
  pub used : s.used ≡ names (last_steps h)
  pub stood : Stood h s.standing

-- an accepted tableau names live entries that no model makes true
refutation_core : (bk : Book) (ls : Lengths) (bs : List ℕ) (n : ℕ) (a : Result Used RefuteFault) → Ok n ≡ result_map_both member_count (λ f. f) a → RefuteAnswer bk ls bs a → Core bk (names (decoded bs))
refutation_core bk ls bs n (Ok u) is a =
    let refuted = a.accepted u refl in
    let r = refuted.refutation in
    record {
      live = λ i m. ap (λ (l : StoredEntry). l.live) (named_live bk r.tableau i (ap (λ (ss : List Step). names ss i) r.written ∙ m)).1;
      none = λ m h. refuted.sound m (λ i named. h i named);
    }
refutation_core bk ls bs n (Err f) is a = cc

-- a refused call has no change
lower_backed : {A F : Type 0} (hold : F → Fault) (lower : Result A F) (P : Result A F → Type 0) (bk : Book) (f : A → Change) → ((x : A) → P (Ok x) → Backed bk (f x)) → P lower → Backed bk (if_granted (passed_on hold lower) f)
lower_backed hold (Ok x) P bk f back p = back x p
lower_backed hold (Err e) P bk f back p = tt

passed_backed : {A F : Type 0} (hold : F → Fault) (r : Result A Fault) (P : Result A F → Type 0) (bk : Book) (f : A → Change) → ((x : A) → P (Ok x) → Backed bk (f x)) → PassesOn hold r P → Backed bk (if_granted r f)
passed_backed hold r P bk f back p =
    subst (λ q. Backed bk (if_granted q f)) (sym p.1) (lower_backed hold p.0 P bk f back p.2)

-- what the answer of a call tells of its change
pub backed : (e : Event) (bk : Book) (s : Standing) → Answered bk s e → Backed bk (change e)
backed (node raw r) bk s a = passed_backed fault.Node r _ bk _ (λ i p. (node_granted bk raw p.1.0).1) a
backed (enter raw r) bk s a = passed_backed fault.Enter r _ bk _ (λ i p. (p.1.1, (entry_granted bk raw p.1.0).1)) a
backed (strike i r) bk s a = passed_backed fault.Strike r _ bk _ (λ u p. tt) a
backed (refute bs ls r) bk s a = passed_backed fault.Refute r _ bk _ (λ n p. refutation_core bk ls bs n p.0 p.1 p.2) a
backed (show bs o list r) bk s a =
    passed_backed fault.Show r _ bk _ (λ n p. let m = p.answer in (model_of (interpretation_of bs) o m.0.1, (m.3 m.0.1).0)) a
backed (standing r) bk s a = tt

pub run_new : (s : State) → s.book ≡ empty → s.standing ≡ Open → ((i : ℕ) → s.used i ≡ false) → Run [] s
run_new s is_empty is_open unused = record { first = s; new = record { book = is_empty; standing = is_open; used = unused }; moved = none }

kept_new : (s : State) → New s → KeptRun [] s
kept_new s new = record {
  book = book_new s.book new.book;
  justified = subst (λ v. Justified v s.book s.used) (sym new.standing) tt;
  used = fun_ext new.used;
  stood = subst (Stood []) (sym new.standing) opened;
}

used_kept : (c : Change) (used : ℕ → Bool) (last : List Step) → used ≡ names last → used_after c used ≡ names (steps_after c last)
used_kept (tableau_accepted ss) used last e = refl
used_kept c used last e = e

pub tabled : (e : Event) (h : List Event) (s t : State) → KeptRun h s → Moves e s t → Tabled h e s.standing t.standing
tabled e h s t k m = record {
  next = ap (λ (x : State). x.standing) m.state ∙ ap (λ u. standing_after (granted_event u (change e)) s.standing) k.used;
  occurs = subst (λ u. IfSome (granted_event u (change e)) (λ event. Occurs event s.standing)) k.used (occurs (change e) s.standing s.book s.used (backed e s.book s.standing m.answer) k.justified);
}

kept_move : (e : Event) (h : List Event) (s t : State) → KeptRun h s → Moves e s t → KeptRun (e ∷ h) t
kept_move e h s t k m =
    let b = backed e s.book s.standing m.answer in
    subst (KeptRun (e ∷ h)) (sym m.state)
    (record {
      book = book_kept e h s.book b k.book;
      justified = justified_after (change e) s.standing s.book s.used k.book.lawful b k.justified;
      used = used_kept (change e) s.used (last_steps h) k.used;
      stood = followed k.stood (tabled e h s (after (change e) s) k (record { answer = m.answer; state = refl }));
    })

kept_moves : (h : List Event) (s t : State) → KeptRun [] s → MovesAll h s t → KeptRun h t
kept_moves h s t k none = k
kept_moves h s t k (more {es = es} {e = e} {t = u} ms m) = kept_move e es u t (kept_moves es s u k ms) m

pub kept_run : (h : List Event) (s : State) → Run h s → KeptRun h s
kept_run h s r = kept_moves h r.first s (kept_new r.first r.new) r.moved

moved_on : (h es : List Event) (s t u : State) → MovesAll h s t → MovesAll es t u → MovesAll (es ++ h) s u
moved_on h es s t u m none = m
moved_on h es s t u m (more {es = fs} {t = v} ms x) = more (moved_on h fs s t v m ms) x

pub run_on : (h es : List Event) (s t : State) → Run h s → MovesAll es s t → Run (es ++ h) t
run_on h es s t r m = record { first = r.first; new = r.new; moved = moved_on h es r.first s t r.moved m }

-- from refuted the table moves at a strike of an entry used alone
lifted_struck : (b : Bool) → ((if b then Open else Refuted) ≢ Refuted) ↔ (b ≡ true)
lifted_struck true = (λ _. refl, λ _ r. cc)
lifted_struck false = (λ move. absurd (move refl), λ e. absurd (false≢true e))

lifted : (used : ℕ → Bool) (c : Change) → (standing_after (granted_event used c) Refuted ≢ Refuted) ↔ ((i : ℕ) × (c ≡ entry_struck i) × (used i ≡ true))
lifted used (entry_struck i) = (
  λ move. (i, refl, (lifted_struck (used i)).0 move),
  λ p. (lifted_struck (used i)).1 (let e : p.0 ≡ i = cc p.1 in ap used (sym e) ∙ p.2),
)
lifted used c = (λ move. absurd (move refl), λ p. cc p.1)

-- from shown at an entry taken alone
reopened : (used : ℕ → Bool) (c : Change) → (standing_after (granted_event used c) Shown ≢ Shown) ↔ ((i : ℕ) × (x : Entry) × (c ≡ entry_taken i x))
reopened used (entry_taken i x) = (λ _. (i, x, refl), λ _ e. cc)
reopened used c = (λ move. absurd (move refl), λ p. cc p.2)

closed_next : (s : Standing) → Occurs Closed s → next s Closed ≡ Refuted
closed_next Open o = refl
closed_next Refuted o = refl
closed_next Shown o = absurd o

satisfied_next : (s : Standing) → Occurs Satisfied s → next s Satisfied ≡ Shown
satisfied_next Open o = refl
satisfied_next Refuted o = absurd o
satisfied_next Shown o = refl

passed_ok : {A F : Type 0} (hold : F → Fault) (r : Result A F) → is_ok (passed_on hold r) ≡ is_ok r
passed_ok hold (Ok x) = refl
passed_ok hold (Err e) = refl

-- what the judge promises of its answer, as the law says it of the docket's
judge_answered : (bk : Book) (bs : List ℕ) (ls : Lengths) (a : Result Used RefuteFault) → RefuteAnswer bk ls bs a → RefuteLaw bk bs ls (passed_on fault.Refute (result_map_both member_count (λ f. f) a))
judge_answered bk bs ls (Ok u) a = let accepted = a.accepted u refl in (accepted.refutation, accepted.count, λ g why. cc (a.refuses g why))
judge_answered bk bs ls (Err e) a = (e, refl, a.refused e refl, λ r. cc (a.accepts r).1, λ g why. cc (a.refuses g why))

refute_answered : (bk : Book) (bs : List ℕ) (ls : Lengths) (r : Result ℕ Fault) → PassesOn fault.Refute r (λ a. RefuteCount bk ls bs a) → RefuteLaw bk bs ls r
refute_answered bk bs ls r (lower, passed, (answer, counted, a)) =
    subst (RefuteLaw bk bs ls) (sym (passed ∙ ap (passed_on fault.Refute) counted)) (judge_answered bk bs ls answer a)

-- refute accepts what refutes the live entries, and makes the docket refuted
refute_accepts : (h : List Event) (s t : State) (bs : List ℕ) (ls : Lengths) (r : Result ℕ Fault) → KeptRun h s → Moves (refute bs ls r) s t → Refutation s.book ls bs → IsOk r × (t.standing ≡ Refuted)
refute_accepts h s t bs ls (Ok n) k m refutation =
    let table = tabled (refute bs ls (Ok n)) h s t k m in (refl, table.next ∙ closed_next s.standing table.occurs)
refute_accepts h s t bs ls (Err f) k m refutation = let a = m.answer in let u = a.2.2.accepts refutation in cc (a.1, a.2.1, u.1)

-- show accepts a model of the live entries, and makes the docket shown
show_accepts : (h : List Event) (s t : State) (bs : List ℕ) (o : Preference) (list : List ℕ) (r : Result ℕ Fault) → KeptRun h s → Moves (show bs o list r) s t → (m : Model) → Handed m bs o → Satisfies m s.book → length s.book.nodes ≤ length list → IsOk r × (t.standing ≡ Shown)
show_accepts h s t bs o list (Ok n) k move m handed sat room =
    let table = tabled (show bs o list (Ok n)) h s t k move in (refl, table.next ∙ satisfied_next s.standing table.occurs)
show_accepts h s t bs o list (Err f) k move m handed sat room =
    let a = move.answer in
    let ok = (a.2.models m handed.0 handed.1.0 handed.1.1 room).1 sat in
    absurd (false≢true (ap is_ok a.1 ∙ passed_ok fault.Show a.0 ∙ ok))

pub models_handed : ModelsEncoded → ModelsHanded
models_handed encoded m few o strict better =
    let e = (encoded m few).0 in
    let f : Compatible (interpretation_of (model_bytes m)) o = record { valid = e.valid; strict = strict; sized = better.size ∙ sym e.size } in
    (e.bytes, (e.whole, (f, e.means o f better)))

pub tableaux_handed : TableauxHaveBytes → TableauxHanded
tableaux_handed have bk lawful ls k within fits = let h = have bk lawful.well_formed ls k within fits in (h.bytes, h.refutes)

step_law : ModelsHanded → TableauxHanded → (h : List Event) (s : State) (e : Event) (t : State) → KeptRun h s → Moves e s t → StepLaw h s e t
step_law handed tableaux h s e t k moves =
    let table = tabled e h s t k moves in
    let moved : (x : Event) → e ≡ x → Moves x s t = λ x is. subst (λ y. Moves y s t) is moves in
    record {
      answer = moves.answer;
      tableau_answer = λ bs ls r is. refute_answered s.book bs ls r (moved _ is).answer;
      table = table;
      unchanged = λ same. moves.state ∙ ap (λ c. after c s) same;
      from_refuted = λ r. subst (λ v. (v ≢ Refuted) ↔ Lifts h e) (sym (table.next ∙ ap (standing_after _) r)) (lifted (names (last_steps h)) (change e));
      from_shown = λ r. subst (λ v. (v ≢ Shown) ↔ Takes e) (sym (table.next ∙ ap (standing_after _) r)) (reopened (names (last_steps h)) (change e));
      refutes = λ (bs, ls, r, is, refutation). (refute_accepts h s t bs ls r k (moved _ is) refutation).1;
      shows = λ (bs, o, list, r, is, m, means, sat, room). (show_accepts h s t bs o list r k (moved _ is) m means sat room).1;
      trees = λ tree ls within fits.
          let b = tableaux s.book k.book.lawful ls tree within fits in (b.0, λ r is. refute_accepts h s t _ ls r k (moved _ is) b.1);
      models = λ m o few sat strict better.
          let b = handed m few o strict better in (b.0, λ list r room is. show_accepts h s t _ o list r k (moved _ is) m b.1 sat room);
    }

pub docket_law : ModelsHanded → TableauxHanded → DocketLaw
docket_law models tableaux h s r =
    let k = kept_run h s r in
    record {
      here = record {
        lawful = k.book.lawful;
        nodes = k.book.nodes;
        entries = k.book.entries;
        live = k.book.live;
        used = λ i. ap (λ f. f i) k.used;
        standing = k.stood;
        refuted = λ e. core_no_model s.book s.used (subst (λ v. Justified v s.book s.used) e k.justified);
        shown = λ e. subst (λ v. Justified v s.book s.used) e k.justified;
      };
      next = λ e t moves. step_law models tableaux h s e t k moves;
    }
