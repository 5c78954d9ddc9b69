use Rattle.std.proofs.Common.{◌≡◌, ℕ, List, take, IfSome}
use Rattle.std.specs.Option.{option_map}
use Rattle.std.specs.Prelude.{None, Some, Option}
use Rattle.folders.proofs.folder.first_bytes.Goals as goal

-- what a reader gives that stops after n bytes, where its bytes are known
first : (all : Option (List ℕ)) (n : ℕ) (bytes : List ℕ) →
    IfSome (option_map (take n) all) (λ xs. bytes ≡ xs) → IfSome all (λ xs. bytes ≡ take n xs)
first None n bytes h = h
first (Some xs) n bytes h = h

pub returns : goal.returns
returns g c =
    let read = rw c.new-bytes.ensures.items at c.in_ok-read_to_end.ensures.bytes in
    let taken = rw c.take.ensures.inner at (rw c.take.ensures.limit at read) in
    first (g.R.Read.remaining c.args.file) 65535 c.read_to_end.new.buf.items taken
