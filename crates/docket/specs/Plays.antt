-- Which calls a history has.
-- Asks: an event is that call. Played: a history is that of a list of calls.
-- Assumes nothing.
use Rattle.std.specs.Prelude.{◌≡◌, ℕ, List, [], ◌∷◌, ◌++◌, length, Result}
use Rattle.std.specs.Borrow.{Bor}
use Rattle.logic.specs.Limits.{Lengths}
use Rattle.orders.specs.Masks.{Preference}
use Rattle.docket.specs.declared.fault.Fault.{Fault}
use Rattle.docket.specs.declared.standing.Standing as standings
use Rattle.docket.specs.declared.play.Call.{Call}
use Rattle.docket.specs.declared.play.Call.TheVariants.{Node, Enter, Strike, Refute, Show, Standing}
use Rattle.docket.specs.Events.{Event}

-- a call whose bytes are lent
abbrev Lent : Type 0 → Type 0
Lent O = Call (Bor (List ℕ)) O

-- the event is that call, with any answer; ls and len are the lengths of the lent lists
abbrev pub Asks : {O : Type 0} → (O → Preference) → Lengths → ℕ → Lent O → Event → Type 0
Asks meaning ls len (Node raw) e = (r : Result ℕ Fault) × (e ≡ Event.node raw r)
Asks meaning ls len (Enter raw) e = (r : Result ℕ Fault) × (e ≡ Event.enter raw r)
Asks meaning ls len (Strike i) e = (r : Result (Unit {0}) Fault) × (e ≡ Event.strike i r)
Asks meaning ls len (Refute bs) e = (r : Result ℕ Fault) × (e ≡ Event.refute bs.now ls r)
Asks meaning ls len (Show bs o) e =
    (r : Result ℕ Fault) × (list : List ℕ)
    × (length list ≡ len) × (e ≡ Event.show bs.now (meaning o) list r)
Asks meaning ls len Standing e = (r : standings.Standing) × (e ≡ Event.standing r)

-- the history (newest first) is that of the calls (oldest first)
pub data Played {O : Type 0} (meaning : O → Preference) (ls : Lengths) (len : ℕ) :
    List (Lent O) → List Event → Type 0 where
  none : Played meaning ls len [] []
  more : {cs : List (Lent O)} {h : List Event} (c : Lent O) {e : Event} →
      Played meaning ls len cs h → Asks meaning ls len c e →
      Played meaning ls len (cs ++ c ∷ []) (e ∷ h)
