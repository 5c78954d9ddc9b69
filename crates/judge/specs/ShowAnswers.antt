-- What show answers for a book, an interpretation in bytes and an order, and what it leaves in its list.
-- LowestFalse, FirstFalse: the lowest live entry that is false. TrueIfLive, IsLiveAndFalse, FindsFirstFalse: how it is
-- found. ExamineAnswer: what is found in a hand-in. ShowAnswer: what each answer of show means. ShowExact: each answer
-- is given whenever it is the first that applies.
-- ShowsModels: what show answers for a model. ShowPromise: all of this.
-- Assumes nothing.
use Rattle.std.specs.Prelude.{◌≡◌, ℕ, ◌<◌, ◌≤◌, Bool, true, List, length, is_ok, Some, None, Ok, Err, ◌↔◌, MatchBool, Option, Result, ◌≢◌}
use Rattle.logic.specs.declared.records.Entry.{Entry}
use Rattle.logic.specs.declared.records.StoredEntry.{StoredEntry}
use Rattle.logic.specs.Books.{Book}
use Rattle.logic.specs.Models.{Model}
use Rattle.logic.specs.Likeness.{Alike}
use Rattle.logic.specs.Satisfaction.{Live, HoldsIn, Satisfies}
use Rattle.orders.specs.Masks.{Preference}
use Rattle.models.specs.Interpretations.{Interpretation, interpretation_of}
use Rattle.models.specs.Fields.{Valid, LowestBad}
use Rattle.models.specs.Meanings.{Compatible, model_of}
use Rattle.models.specs.NodeMasks.{TrueByMasks}
use Rattle.models.specs.declared.faults.ViewFault.TheVariants.{BadLength, BadField}
use Rattle.models.specs.Answers.{HasModelLength, ViewRefused}
use Rattle.models.specs.Views.{view_meaning}
use Rattle.judge.specs.declared.show.Examined.{Examined}
use Rattle.judge.specs.declared.show_faults.ShowFault.{ShowFault}
use Rattle.judge.specs.declared.show_faults.ShowFault.TheVariants.{View, OrderSize, Fill, EntryFails}
use Rattle.judge.specs.ShowFaults.{show_fault_number, show_fault_place}
use Rattle.judge.specs.NodeSets.{Zeros, HasNodeSets}

-- entry i is live and false in the model, and every live entry before it is true
pub record LowestFalse (m : Model) (bk : Book) (i : ℕ) : Type 0 where
  pub entry : Entry
  pub live : Live bk i entry
  pub false_here : HoldsIn m bk entry → ⊥
  pub true_before : (j : ℕ) (e : Entry) → j < i → Live bk j e → HoldsIn m bk e

-- the lowest live entry that is false, if there is one
abbrev pub FirstFalse : Model → Book → Option ℕ → Type 0
FirstFalse m bk None = Satisfies m bk
FirstFalse m bk (Some i) = LowestFalse m bk i

-- the stored entry is true by the masks of the list, if it is live
abbrev pub TrueIfLive : Interpretation → List ℕ → StoredEntry → Type 0
TrueIfLive i list l = l.live ≡ true → TrueByMasks i list l.entry

-- the test tells whether the stored entry is live and false by the masks
abbrev pub IsLiveAndFalse : Interpretation → List ℕ → StoredEntry → Bool → Type 0
IsLiveAndFalse i list l test = MatchBool test (TrueIfLive i list l → ⊥) (TrueIfLive i list l)

-- If the list has the set of each node in a model that the interpretation means, with any order: the lowest live entry
-- that is false in the model, if there is one.
abbrev pub FindsFirstFalse : Book → Interpretation → List ℕ → Option ℕ → Type 0
FindsFirstFalse bk i list r = (o : Preference) (f : Compatible i o) → HasNodeSets (model_of i o f) bk list → FirstFalse (model_of i o f) bk r

-- bytes and order mean a model: the right length, all fields good, and an order of the same size
abbrev pub MeanModel : List ℕ → Preference → Type 0
MeanModel bs o = HasModelLength bs × Compatible (interpretation_of bs) o

-- Of each refusal: that no earlier one applies, its reason, its number and place, and what the list holds. Numbers and
-- places are written out: if their definitions are wrong, the call does not prove.
abbrev pub ShowRefused : Book → List ℕ → Preference → List ℕ → ShowFault → Type 0
ShowRefused bk bs o list (View f) = ViewRefused bs f × Zeros list
ShowRefused bk bs o list (OrderSize n) =
    HasModelLength bs × Valid (interpretation_of bs) × (o.size ≢ (interpretation_of bs).size)
    × (show_fault_number (OrderSize n) ≡ 16) × (show_fault_place (OrderSize n) ≡ o.size) × Zeros list
ShowRefused bk bs o list (Fill f) =
    MeanModel bs o × (length list < length bk.nodes)
    × (show_fault_number (Fill f) ≡ 17) × (show_fault_place (Fill f) ≡ length list) × Zeros list
ShowRefused bk bs o list (EntryFails i) =
    MeanModel bs o × (length bk.nodes ≤ length list) × (show_fault_number (EntryFails i) ≡ 18)
    × ((f : Compatible (interpretation_of bs) o) → LowestFalse (model_of (interpretation_of bs) o f) bk (show_fault_place (EntryFails i)) × HasNodeSets (model_of (interpretation_of bs) o f) bk list)

-- The view holds the interpretation in the bytes, the entry is the lowest live one that is false, if there is
-- one, and the list has the sets of the model. Or the answer is the first refusal that applies; a false entry is
-- no refusal here.
abbrev pub ExamineAnswer : Book → List ℕ → Preference → List ℕ → Result Examined ShowFault → Type 0
ExamineAnswer bk bs o list (Ok e) =
    MeanModel bs o × (length bk.nodes ≤ length list) × (view_meaning e.view ≡ interpretation_of bs)
    × ((f : Compatible (interpretation_of bs) o) →
    FirstFalse (model_of (interpretation_of bs) o f) bk e.lowest_false × HasNodeSets (model_of (interpretation_of bs) o f) bk list)
ExamineAnswer bk bs o list (Err (View f)) = ShowRefused bk bs o list (View f)
ExamineAnswer bk bs o list (Err (OrderSize n)) = ShowRefused bk bs o list (OrderSize n)
ExamineAnswer bk bs o list (Err (Fill f)) = ShowRefused bk bs o list (Fill f)
ExamineAnswer bk bs o list (Err (EntryFails i)) = ⊥

-- Accepted: the number of elements; the model satisfies the live entries, and the list has its sets. The
-- list is that after the call, of the same length as before. The model does not depend on the evidence f.
abbrev pub ShowAnswer : Book → List ℕ → Preference → List ℕ → Result ℕ ShowFault → Type 0
ShowAnswer bk bs o list (Ok n) =
    MeanModel bs o × (length bk.nodes ≤ length list) × (n ≡ (interpretation_of bs).size)
    × ((f : Compatible (interpretation_of bs) o) → Satisfies (model_of (interpretation_of bs) o f) bk × HasNodeSets (model_of (interpretation_of bs) o f) bk list)
ShowAnswer bk bs o list (Err e) = ShowRefused bk bs o list e

-- Each answer is given whenever it is the first that applies; len is the length of the list.
pub record ShowExact (bk : Book) (bs : List ℕ) (o : Preference) (len : ℕ) (r : Result ℕ ShowFault) : Type 0 where
  pub bad_length : (HasModelLength bs → ⊥) → r ≡ Err (View (BadLength (length bs)))
  pub bad_field : (k : ℕ) → HasModelLength bs → LowestBad (interpretation_of bs) k → r ≡ Err (View (BadField k))
  pub order_size : HasModelLength bs → Valid (interpretation_of bs) → (o.size ≢ (interpretation_of bs).size) → r ≡ Err (OrderSize o.size)
  pub list_too_short : MeanModel bs o → len < length bk.nodes → r ≡ Err (Fill (record { 0 = len }))
  pub entry_fails : (i : ℕ) → HasModelLength bs → (f : Compatible (interpretation_of bs) o) → length bk.nodes ≤ len → LowestFalse (model_of (interpretation_of bs) o f) bk i → r ≡ Err (EntryFails i)
  pub accepted : HasModelLength bs → (f : Compatible (interpretation_of bs) o) → length bk.nodes ≤ len → Satisfies (model_of (interpretation_of bs) o f) bk → r ≡ Ok (interpretation_of bs).size

-- If the bytes and the order mean a model and the list has a place for each node, the hand-in is accepted
-- exactly when that model satisfies the live entries.
abbrev pub ShowsModels : Book → List ℕ → Preference → ℕ → Result ℕ ShowFault → Type 0
ShowsModels bk bs o len r =
    (m : Model) → HasModelLength bs → (f : Compatible (interpretation_of bs) o) → Alike m (model_of (interpretation_of bs) o f) → length bk.nodes ≤ len →
    (is_ok r ≡ true) ↔ Satisfies m bk

-- What show promises; len is the length of the list, and list is what it holds afterwards.
pub record ShowPromise (bk : Book) (bs : List ℕ) (o : Preference) (len : ℕ) (list : List ℕ) (r : Result ℕ ShowFault) : Type 0 where
  pub answer : ShowAnswer bk bs o list r
  pub exact : ShowExact bk bs o len r
  pub models : ShowsModels bk bs o len r
