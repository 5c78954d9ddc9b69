use Rattle.std.proofs.Common.{◌≡◌, ◌+◌, ◌*◌, [], ◌++◌, take}
use Rattle.std.specs.List.{flat_map}
use Rattle.sealed.specs.Writing.{node_bytes, entry_bytes}
use Rattle.sealed.proofs.Writings.{Front}
use Rattle.sealed.proofs.seal.seal.Given as goal

abbrev pub invariant-loop-i : goal.invariant-loop-i
invariant-loop-i g l =
    let bk = g.B.ReadableBook.meaning l.book in
    (l.at ≡ 5 * l.i) × Front ([] ++ flat_map node_bytes (take l.i bk.nodes)) l.fn.out l.out l.at

abbrev pub invariant-loop-j : goal.invariant-loop-j
invariant-loop-j g l =
    let bk = g.B.ReadableBook.meaning l.book in
    (l.at ≡ 5 * l.counts.nodes + 7 * l.j) × Front (flat_map node_bytes bk.nodes ++ flat_map entry_bytes (take l.j bk.entries)) l.fn.out l.out l.at
