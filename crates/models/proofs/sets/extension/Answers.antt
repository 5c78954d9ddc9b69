use Rattle.std.proofs.Common.{rules, ◌≡◌, ℕ, List, ap, ◌∙◌, sym, subst}
use Rattle.logic.specs.declared.records.Node.{Node}
use Rattle.logic.specs.declared.records.Node.TheVariants.{Top, Bottom, Name, And, Or, Absent}
use Rattle.orders.specs.Masks.{has, all_below, Preference}
use Rattle.orders.proofs.MaskBits.{has-zero, has-and, has-or, has-all_below}
use Rattle.models.specs.Interpretations.{Interpretation}
use Rattle.models.specs.Fields.{size}
use Rattle.models.specs.Views.{view_meaning, view_valid}
use Rattle.models.specs.Extensions.{SetOfNode}
use Rattle.models.specs.NodeMasks.{MaskOfNode}
use Rattle.models.proofs.ConceptSets.{set_of_mask}
use Rattle.models.proofs.sets.extension.Goals as goal

-- the node is known, and so is its mask: both clauses hold
known : (i : Interpretation) (o : Preference) (list : List ℕ) (n : Node) (m : ℕ) (k : Node) → n ≡ k → MaskOfNode i o list k m → record { mask : MaskOfNode i o list n m; set : SetOfNode i o list n m }
known i o list n m k e h =
    let here = subst (λ n. MaskOfNode i o list n m) (sym e) h in
    record { mask = here; set = set_of_mask i o list n m here }

pub returns-in-Top : goal.returns-in-Top
returns-in-Top g c =
    let v = c.args.view.now in
    known _ _ _ _ _ Top c.in-Top.is (λ x. ap (λ m. has m x) c.all_below.ensures ∙ ap (λ n. has (all_below n) x) c.size.ensures ∙ has-all_below (view_meaning v).size x (view_valid v size).1)

pub returns-in-Bottom : goal.returns-in-Bottom
returns-in-Bottom g c = known _ _ _ _ _ Bottom c.in-Bottom.is has-zero

pub returns-in-Name : goal.returns-in-Name
returns-in-Name g c = known _ _ _ _ _ (Name c.in-Name.a) c.in-Name.is (λ x. ap (λ m. has m x) c.name.ensures)

pub returns-in-And : goal.returns-in-And
returns-in-And g c = known _ _ _ _ _ (And c.in-And.c c.in-And.d) c.in-And.is (λ x. cc (has-and c.set_at-in-And.result c.set_at-in-And-2.result x))

pub returns-in-Or : goal.returns-in-Or
returns-in-Or g c = known _ _ _ _ _ (Or c.in-Or.c c.in-Or.d) c.in-Or.is (λ x. cc (has-or c.set_at-in-Or.result c.set_at-in-Or-2.result x))

pub returns-in-Absent : goal.returns-in-Absent
returns-in-Absent g c = known _ _ _ _ _ Absent c.in-Absent.is has-zero

pub returns-in-All-clause-set : goal.returns-in-All-clause-set
returns-in-All-clause-set g c = set_of_mask (view_meaning c.args.view.now) (g.O.Order.meaning c.args.order.now) c.args.list.now c.args.node _ (search rules)
