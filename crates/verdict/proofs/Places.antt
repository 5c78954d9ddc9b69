-- The place of each refusal lies within the bytes that were handed in, or within a limit. Assumes nothing.
use Rattle.std.proofs.Common.{◌≡◌, ℕ, ◌+◌, ◌/◌, ◌<◌, ◌≤◌, List, length, arith}
use Rattle.logic.specs.Books.{Book}
use Rattle.logic.specs.Lawful.{Lawful}
use Rattle.logic.specs.Limits.{Lengths}
use Rattle.sealed.specs.declared.faults.CheckFault.{CheckFault}
use Rattle.sealed.specs.Faults.{check_fault_place}
use Rattle.sealed.specs.Checks.{Bad, frame, node, entry}
use Rattle.sealed.proofs.Passing.{frame_parts}
use Rattle.orders.specs.PairLaws.{order_of_pairs, PairsLawful}
use Rattle.orders.specs.declared.faults.PairsFault.{PairsFault}
use Rattle.orders.specs.declared.faults.PairsFault.TheVariants as pairs
use Rattle.orders.specs.Faults.{pairs_fault_place}
use Rattle.orders.specs.Answers.{PairsRefused}
use Rattle.models.specs.Interpretations.{interpretation_of}
use Rattle.models.specs.Fields.{Field, size, name, role, individual, first_byte, InBytes, LowestBad}
use Rattle.models.specs.declared.faults.ViewFault.TheVariants as view
use Rattle.judge.specs.declared.faults.RefuteFault.{RefuteFault}
use Rattle.judge.specs.declared.faults.RefuteFault.TheVariants.{BadLength, AtStep, AfterClosing, NotClosed}
use Rattle.judge.specs.declared.show_faults.ShowFault.{ShowFault}
use Rattle.judge.specs.declared.show_faults.ShowFault.TheVariants.{View, OrderSize, Fill, EntryFails}
use Rattle.judge.specs.Faults.{refute_fault_place}
use Rattle.judge.specs.ShowFaults.{show_fault_place}
use Rattle.judge.specs.Steps.{decoded}
use Rattle.judge.specs.Reasons.{RefuteReason, by_length, by_steps, StepsReason}
use Rattle.judge.specs.ShowAnswers.{ShowRefused}
use Rattle.judge.proofs.Decoding.{steps_length}
use Rattle.judge.proofs.Agreeing.{live_within}

pub check_place : (bs : List ℕ) (f : CheckFault) → Bad bs f → check_fault_place f ≤ length bs
check_place bs f (frame fits number place) = omega (arith, place)
check_place bs f (node {n = n} {m = m} fits n-is m-is first) =
    let p = frame_parts bs n m fits n-is m-is in
    omega (arith, first.place, first.within, p.within, p.long)
check_place bs f (entry {n = n} {m = m} fits n-is m-is nodes first) =
    let p = frame_parts bs n m fits n-is m-is in
    omega (arith, first.place, first.within, p.within, p.long)

pub pairs_place : (ps : List ℕ) (f : PairsFault) → PairsRefused ps f → pairs_fault_place f ≤ length ps
pairs_place ps (pairs.BadLength n) r = omega (arith, r.2)
pairs_place ps (pairs.Unlawful x) r = omega (arith, r.2.within)

-- pairs are not refused where they are a strict order
pub pairs_unlawful : (ps : List ℕ) (f : PairsFault) → PairsRefused ps f → PairsLawful ps → ⊥
pairs_unlawful ps (pairs.BadLength n) r lawful = r.0 lawful.0
pairs_unlawful ps (pairs.Unlawful x) r (whole, strict) =
    r.2.unlawful (record { within = strict.within x; other = strict.irreflexive x; closed = λ y h z t. strict.transitive x y z h t })

halted_place : (bk : Book) (ls : Lengths) (ss : List ℕ) (f : RefuteFault) → StepsReason bk ls (decoded ss) f → refute_fault_place f ≤ length (decoded ss)
halted_place bk ls ss (BadLength n) h = absurd h
halted_place bk ls ss (AtStep i f) h = omega (arith, h.here.within)
halted_place bk ls ss (AfterClosing i) h = omega (arith, h.0)
halted_place bk ls ss (NotClosed n) h = omega (arith, h.0)

pub refute_place : (bk : Book) (ls : Lengths) (ss : List ℕ) (f : RefuteFault) → RefuteReason bk ls ss f → refute_fault_place f ≤ length ss
refute_place bk ls ss f (by_length bad) = omega arith
refute_place bk ls ss f (by_steps whole h) = omega (arith, halted_place bk ls ss f h, steps_length ss (length ss / 5))

-- a bad field is one of those that the bytes have
bad_field : (bs : List ℕ) (k : ℕ) → LowestBad (interpretation_of bs) k → k < 2337
bad_field bs k b = of b.field b.in_bytes b.stands where
  of : (f : Field) → InBytes f → first_byte f ≡ k → k < 2337
  of size there at = omega (arith, at)
  of (name a) there at = omega (arith, at, there)
  of (role r x) there at = omega (arith, at, there.0, there.1)
  of (individual a) there at = omega (arith, at, there)

pub show_place : (bk : Book) (ms ps list : List ℕ) (f : ShowFault) → Lawful bk → ShowRefused bk ms (order_of_pairs ps) list f → show_fault_place f ≤ length ms + length ps + 2337
show_place bk ms ps list (View (view.BadLength n)) lawful r = omega (arith, r.0.2)
show_place bk ms ps list (View (view.BadField k)) lawful r = omega (arith, bad_field ms k r.0.2)
show_place bk ms ps list (OrderSize n) lawful r = omega (arith, r.4)
show_place bk ms ps list (Fill f) lawful r = omega (arith, r.3, r.1, lawful.well_formed.few_nodes)
show_place bk ms ps list (EntryFails i) lawful r =
    let l = (r.3 r.0.1).0 in
    omega (arith, live_within bk i l.entry l.live, lawful.well_formed.few_entries)
