-- From what a view holds to what is answered of the bytes that say it. Assumes nothing.
use Rattle.std.proofs.Common.{◌≡◌, ℕ, List, Some, None, Ok, Err, Option, refl, ap, ◌∙◌, subst}
use Rattle.logic.specs.Books.{Book}
use Rattle.orders.specs.Masks.{Preference, Strict}
use Rattle.models.specs.Interpretations.{Interpretation, interpretation_of}
use Rattle.models.specs.Meanings.{Compatible, model_of}
use Rattle.models.specs.Answers.{HasModelLength}
use Rattle.models.specs.declared.view.View.{View}
use Rattle.models.specs.Views.{view_meaning, view_valid}
use Rattle.judge.specs.declared.show.Examined.{Examined}
use Rattle.judge.specs.declared.show_faults.ShowFault.{ShowFault}
use Rattle.judge.specs.declared.show_faults.ShowFault.TheVariants as fault
use Rattle.judge.specs.NodeSets.{HasNodeSets, NodeSetsAnswer}
use Rattle.judge.specs.ShowAnswers.{FirstFalse, FindsFirstFalse, MeanModel, ExamineAnswer, ShowAnswer}

module _ (bk : Book) (v : View) (o : Preference) (list bs : List ℕ) (whole : HasModelLength bs) (e : view_meaning v ≡ interpretation_of bs) (strict : Strict o) (sized : o.size ≡ (view_meaning v).size) (filled : NodeSetsAnswer bk (view_meaning v) o list (Ok tt)) where
  readable : MeanModel bs o
  readable = (whole, subst (λ j. Compatible j o) e (record { valid = view_valid v; strict = strict; sized = sized }))

  sets : (f : Compatible (interpretation_of bs) o) → HasNodeSets (model_of (interpretation_of bs) o f) bk list
  sets = subst (λ j. (f : Compatible j o) → HasNodeSets (model_of j o f) bk list) e filled.2

  pub examined : (n : Option ℕ) → FindsFirstFalse bk (view_meaning v) list n → ExamineAnswer bk bs o list (Ok (record { view = v; lowest_false = n }))
  examined n found = (readable, filled.0, e, λ f. (subst (λ j. FindsFirstFalse bk j list n) e found o f (sets f), sets f))

-- and from that to what show answers
module _ (bk : Book) (bs : List ℕ) (o : Preference) (list : List ℕ) where
  pub refused : (f : ShowFault) → ExamineAnswer bk bs o list (Err f) → ShowAnswer bk bs o list (Err f)
  refused (fault.View f) h = h
  refused (fault.OrderSize n) h = h
  refused (fault.Fill f) h = h
  refused (fault.EntryFails i) h = absurd h

  module _ (e : Examined) (h : ExamineAnswer bk bs o list (Ok e)) where
    pub at_entry : (k : ℕ) → e.lowest_false ≡ Some k → ShowAnswer bk bs o list (Err (fault.EntryFails k))
    at_entry k is = (h.0, h.1, refl, λ f. (subst (FirstFalse (model_of (interpretation_of bs) o f) bk) is (h.3 f).0, (h.3 f).1))

    pub at_model : e.lowest_false ≡ None → (n : ℕ) → n ≡ (view_meaning e.view).size → ShowAnswer bk bs o list (Ok n)
    at_model is n size = (
      h.0,
      h.1,
      size ∙ ap (λ (j : Interpretation). j.size) h.2,
      λ f. (subst (FirstFalse (model_of (interpretation_of bs) o f) bk) is (h.3 f).0, (h.3 f).1),
    )
