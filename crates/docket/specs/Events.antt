-- The calls of a docket, each with its arguments and its answer.
-- Assumes nothing.
use Rattle.std.specs.Prelude.{ℕ, List, Result}
use Rattle.logic.specs.declared.records.RawNode.{RawNode}
use Rattle.logic.specs.declared.records.RawEntry.{RawEntry}
use Rattle.logic.specs.Limits.{Lengths}
use Rattle.orders.specs.Masks.{Preference}
use Rattle.docket.specs.declared.fault.Fault.{Fault}
use Rattle.docket.specs.declared.standing.Standing.{Standing}

-- Refute has bytes and the lengths of its three lists. Show has bytes, the meaning of its order, and the
-- contents of its list afterwards, which has the same length as before.
pub data Event : Type 0 where
  node : RawNode → Result ℕ Fault → Event
  enter : RawEntry → Result ℕ Fault → Event
  strike : ℕ → Result (Unit {0}) Fault → Event
  refute : List ℕ → Lengths → Result ℕ Fault → Event
  show : List ℕ → Preference → List ℕ → Result ℕ Fault → Event
  standing : Standing → Event
