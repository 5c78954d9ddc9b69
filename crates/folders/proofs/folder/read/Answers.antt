use Rattle.folders.proofs.Reading.{opened}
use Rattle.folders.proofs.folder.read.Goals as goal

pub returns-in_ok-first_bytes-in-Some-clause-read : goal.returns-in_ok-first_bytes-in-Some-clause-read
returns-in_ok-first_bytes-in-Some-clause-read g c =
    let known = rw c.in-Some.is at c.in_ok-file.ensures.opened in
    opened g.F.File.Read.remaining _ c.in-Some.file _ known c.in_ok-first_bytes-in-Some.ensures
