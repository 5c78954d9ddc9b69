-- The law of all runs of a docket. A history has the newest call first.
-- Law: the state after a history. RefuteLaw: what refute answers. StepLaw: every next call. DocketLaw: both, after
-- every run. RunsExtend: any list of events extends a run. BookCallsLift: calls of a book as calls of a docket.
-- Handed, ModelsHanded, TableauxHanded: models and tableaux as they are handed over.
-- Assumes nothing.
use Rattle.std.specs.Prelude.{◌≡◌, ◌≢◌, ℕ, ◌≤◌, ◌↔◌, List, ◌++◌, map, length, IsTrue, IsOk, Ok, Err, Result}
use Rattle.logic.specs.declared.records.StoredEntry.{StoredEntry}
use Rattle.logic.specs.Books.{Book, stored_at}
use Rattle.logic.specs.Lawful.{Lawful}
use Rattle.logic.specs.Models.{Model}
use Rattle.logic.specs.Satisfaction.{Satisfies}
use Rattle.logic.specs.Likeness.{Alike}
use Rattle.logic.specs.Branches.{start}
use Rattle.logic.specs.Tableaux.{Closed, writing, names, named_count}
use Rattle.logic.specs.Limits.{Lengths, WithinLimits}
use Rattle.logic.specs.Limits as limits
use Rattle.orders.specs.Masks.{Preference, Strict}
use Rattle.models.specs.Interpretations.{interpretation_of}
use Rattle.models.specs.Meanings.{Compatible, model_of}
use Rattle.models.specs.Answers.{HasModelLength}
use Rattle.models.specs.Encodings.{model_bytes, MeansBetter}
use Rattle.books.specs.Calls.{BookCall, CalledAll}
use Rattle.judge.specs.declared.faults.RefuteFault.{RefuteFault}
use Rattle.judge.specs.Steps.{decoded, encoded, Bytes}
use Rattle.judge.specs.Reasons.{RefuteReason}
use Rattle.judge.specs.Refutations.{Refutation}
use Rattle.docket.specs.declared.fault.Fault.{Fault}
use Rattle.docket.specs.declared.fault.Fault.TheVariants as fault
use Rattle.docket.specs.declared.standing.Standing.TheVariants.{Refuted, Shown}
use Rattle.docket.specs.Events.{Event, Event.refute, Event.show}
use Rattle.docket.specs.Changes.{nothing, change, State}
use Rattle.docket.specs.Answers.{Answered, event_of}
use Rattle.docket.specs.Runs.{Moves, MovesAll, Run}
use Rattle.docket.specs.Histories.{granted_nodes, granted_entries, Stands, last_steps, Tabled, Stood, Lifts, Takes}

-- what holds after every list of calls, granted or refused and with any arguments
pub record Law (h : List Event) (s : State) : Type 0 where
  -- the book is lawful; its nodes and entries are those of the granted calls, in order
  pub lawful : Lawful s.book
  pub nodes : s.book.nodes ≡ granted_nodes h
  pub entries : map (λ (l : StoredEntry). l.entry) s.book.entries ≡ granted_entries h
  -- the live entries are those that enter added and no later strike removed
  pub live : (i : ℕ) → IsTrue (stored_at s.book i).live ↔ Stands i h
  -- the entries used are those that the last accepted tableau names
  pub used : (i : ℕ) → s.used i ≡ names (last_steps h) i
  -- the standing is the one that the table gives along the history
  pub standing : Stood h s.standing
  -- whenever refuted, no finite preferential model, of any size, satisfies the live entries
  pub refuted : s.standing ≡ Refuted → (m : Model) → Satisfies m s.book → ⊥
  -- whenever shown, some model does
  pub shown : s.standing ≡ Shown → (m : Model) × Satisfies m s.book

-- the bytes and the order mean the model
abbrev pub Handed : Model → List ℕ → Preference → Type 0
Handed m bs o =
    HasModelLength bs
    × ((f : Compatible (interpretation_of bs) o) × Alike m (model_of (interpretation_of bs) o f))

-- a refute that is handed the bytes of a closed tableau over the live entries that is within the limits and
-- fits the lists
abbrev pub Closing : Book → Event → Type 0
Closing bk e =
    (bs : List ℕ) × (ls : Lengths) × (r : Result ℕ Fault)
    × (e ≡ refute bs ls r) × Refutation bk ls bs

-- a show that is handed a model that satisfies the live entries, and a list that has a place for each node
abbrev pub Modelling : Book → Event → Type 0
Modelling bk e =
    (bs : List ℕ) × (o : Preference) × (list : List ℕ) × (r : Result ℕ Fault)
    × (e ≡ show bs o list r) × (m : Model) × Handed m bs o × Satisfies m bk × (length bk.nodes ≤ length list)

-- What refute answers. Granted: the bytes write a closed tableau over the live entries that is within the limits and
-- fits the lists, the number is that of the entries that its steps name, and no fault has a reason. Refused: they
-- write none, and the fault is the judge's, held whole; it has a reason, and no other fault has one.
abbrev pub RefuteLaw : Book → List ℕ → Lengths → Result ℕ Fault → Type 0
RefuteLaw bk bs ls (Ok n) =
    Refutation bk ls bs × (n ≡ named_count (decoded bs))
    × ((g : RefuteFault) → RefuteReason bk ls bs g → ⊥)
RefuteLaw bk bs ls (Err f) =
    (e : RefuteFault) × (f ≡ fault.Refute e) × RefuteReason bk ls bs e
    × (Refutation bk ls bs → ⊥) × ((g : RefuteFault) → RefuteReason bk ls bs g → g ≡ e)

-- what holds of every next call, with any arguments
pub record StepLaw (h : List Event) (s : State) (e : Event) (t : State) : Type 0 where
  pub answer : Answered s.book s.standing e
  -- in terms of the calculus: what refute answers
  pub tableau_answer : (bs : List ℕ) (ls : Lengths) (r : Result ℕ Fault) →
      e ≡ refute bs ls r → RefuteLaw s.book bs ls r
  pub table : Tabled h e s.standing t.standing
  -- a call that changes nothing, such as a refused one, leaves book, standing and used entries as they were
  pub unchanged : change e ≡ nothing → t ≡ s
  -- the standing leaves refuted exactly at a strike of a used entry, and shown exactly at a granted
  -- enter
  pub from_refuted : s.standing ≡ Refuted → (t.standing ≢ Refuted) ↔ Lifts h e
  pub from_shown : s.standing ≡ Shown → (t.standing ≢ Shown) ↔ Takes e
  -- refute of a closed tableau makes the docket refuted, show of a model makes it shown
  pub refutes : Closing s.book e → t.standing ≡ Refuted
  pub shows : Modelling s.book e → t.standing ≡ Shown
  -- in terms of the tree: a closed tableau over the live entries that is within the limits and fits the lists
  -- has bytes, and refute accepts them and makes the docket refuted
  pub trees : (k : Closed s.book start) (ls : Lengths) → WithinLimits k → limits.FitsLists ls k →
      Bytes (encoded (writing k))
      × ((r : Result ℕ Fault) → e ≡ refute (encoded (writing k)) ls r →
      IsOk r × (t.standing ≡ Refuted))
  -- in terms of the model: a model of the live entries with at most 32 elements has bytes, and show accepts
  -- them, with any strict order that is its "better" and a list long enough, and makes the docket shown
  pub models : (m : Model) (o : Preference) → m.size ≤ 32 → Satisfies m s.book →
      Strict o → MeansBetter m o →
      Bytes (model_bytes m)
      × ((list : List ℕ) (r : Result ℕ Fault) → length s.book.nodes ≤ length list →
      e ≡ show (model_bytes m) o list r → IsOk r × (t.standing ≡ Shown))

-- the state, and every next call
pub record LawfulRun (h : List Event) (s : State) : Type 0 where
  pub here : Law h s
  pub next : (e : Event) (t : State) → Moves e s t → StepLaw h s e t

-- the law of every run
abbrev pub DocketLaw : Type 0
DocketLaw = (h : List Event) (s : State) → Run h s → LawfulRun h s

-- any list of events extends a run
abbrev pub RunsExtend : Type 0
RunsExtend = (h es : List Event) (s t : State) → Run h s → MovesAll es s t → Run (es ++ h) t

-- a list of calls of a book is a list of calls of a docket that has that book, and leads to a docket that has the
-- book after them
abbrev pub BookCallsLift : Type 0
BookCallsLift =
    (cs : List BookCall) (s : State) (bk : Book) → CalledAll cs s.book bk →
    (t : State) × (t.book ≡ bk) × MovesAll (map event_of cs) s t

-- every model of at most 32 elements can be handed over as bytes, with any strict order that is its "better"
abbrev pub ModelsHanded : Type 0
ModelsHanded =
    (m : Model) → m.size ≤ 32 → (o : Preference) → Strict o → MeansBetter m o
    → Bytes (model_bytes m) × Handed m (model_bytes m) o

-- every closed tableau that is within the limits and fits the lists can be handed over as bytes
abbrev pub TableauxHanded : Type 0
TableauxHanded =
    (bk : Book) → Lawful bk → (ls : Lengths) (t : Closed bk start)
    → WithinLimits t → limits.FitsLists ls t → Bytes (encoded (writing t)) × Refutation bk ls (encoded (writing t))
