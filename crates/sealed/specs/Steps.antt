-- What the parts of the check answer, and the invariant of an opened book.
-- NodeChecked, NodesGranted, NodeFirstRefused, EntryChecked, EntriesChecked: one record of a frame, and all of them.
-- FrameChecked: the whole check. PassesOrEmpty: the invariant of an opened book.
-- Assumes nothing.
use Rattle.std.specs.Prelude.{◌≡◌, ℕ, Bool, true, ◌⊎◌, List, Ok, Err, Result, slice_index_or}
use Rattle.logic.specs.declared.records.Node.{Node}
use Rattle.logic.specs.Written.{node_of}
use Rattle.logic.specs.Concepts.{of, read, concepts, plain}
use Rattle.sealed.specs.declared.frame.Frame.{Frame}
use Rattle.sealed.specs.declared.faults.CheckFault.{CheckFault}
use Rattle.sealed.specs.Faults.{check_fault_number, check_fault_place}
use Rattle.sealed.specs.Writing.{node_size, entry_size}
use Rattle.sealed.specs.Reading.{raw_node_at, node_start, entry_start, node_refusal_in, entry_refusal_in}
use Rattle.sealed.specs.Frames.{node_place, entry_place, first_nodes}
use Rattle.sealed.specs.Checks.{AllGranted, Passes, FirstRefused, Bad}

-- mark i tells whether node i is plain, and is true past the end
abbrev pub PlainMarks : List Bool → List Node → Type 0
PlainMarks marks ns = (k : ℕ) → slice_index_or marks k true ≡ plain (of (concepts ns) k)

-- why node i is refused when it is offered to the book of the nodes before it; 0 if it is granted
abbrev pub node_refused : Frame → ℕ → ℕ
node_refused f i = node_refusal_in f.bytes.now (node_start f.bytes.now f.counts.nodes f.counts.entries) i

-- why entry j is refused when it is offered to the book of all nodes and the entries before it
abbrev pub entry_refused : Frame → ℕ → ℕ
entry_refused f j = entry_refusal_in f.bytes.now (first_nodes f f.counts.nodes) (entry_start f.bytes.now f.counts.entries) j

-- node i is granted, and its mark is answered, or it is refused
abbrev pub NodeChecked : Frame → ℕ → Result Bool CheckFault → Type 0
NodeChecked f i (Ok mark) = (node_refused f i ≡ 0) × (mark ≡ plain (read (concepts (first_nodes f i)) (node_of (raw_node_at f.bytes.now (node_place f i)))))
NodeChecked f i (Err fault) = (node_refused f i ≡ check_fault_number fault) × (check_fault_place fault ≡ node_place f i)

-- entry j is granted, or it is refused
abbrev pub EntryChecked : Frame → ℕ → Result (Unit {0}) CheckFault → Type 0
EntryChecked f j (Ok u) = entry_refused f j ≡ 0
EntryChecked f j (Err fault) = (entry_refused f j ≡ check_fault_number fault) × (check_fault_place fault ≡ entry_place f j)

-- all nodes are granted, or one is the first that is refused
abbrev pub NodesGranted : Frame → Type 0
NodesGranted f = AllGranted (node_refused f) f.counts.nodes

abbrev pub NodeFirstRefused : Frame → CheckFault → Type 0
NodeFirstRefused f = FirstRefused (node_refused f) f.counts.nodes (node_start f.bytes.now f.counts.nodes f.counts.entries) node_size

-- all entries are granted, or one is the first that is refused
abbrev pub EntriesChecked : Frame → Result (Unit {0}) CheckFault → Type 0
EntriesChecked f (Ok u) = AllGranted (entry_refused f) f.counts.entries
EntriesChecked f (Err fault) = FirstRefused (entry_refused f) f.counts.entries (entry_start f.bytes.now f.counts.entries) entry_size fault

-- the frame of the bytes if they pass, or else the first fault
abbrev pub FrameChecked : List ℕ → Result Frame CheckFault → Type 0
FrameChecked bs (Ok f) = (f.bytes.now ≡ bs) × Passes f.bytes.now f.counts.nodes f.counts.entries
FrameChecked bs (Err fault) = Bad bs fault

-- check passes with these counts, or both are 0
abbrev pub PassesOrEmpty : List ℕ → ℕ → ℕ → Type 0
PassesOrEmpty bs n m = ∥ Passes bs n m ⊎ ((n ≡ 0) × (m ≡ 0)) ∥₁
