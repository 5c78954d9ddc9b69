use Rattle.std.proofs.Common.{sym, ◌∙◌}
use Rattle.models.specs.Interpretations.{interpretation_of}
use Rattle.models.specs.Meanings.{Compatible}
use Rattle.models.specs.Encodings.{model_bytes}
use Rattle.models.proofs.PairEncoding.{models_encoded}
use Rattle.judge.proofs.laws.models_shown.Goals as goal

pub returns : goal.returns
returns c = λ bk m few o strict better len list r room p.
    let e = (models_encoded m few).0 in
    let f : Compatible (interpretation_of (model_bytes m)) o = record { valid = e.valid; strict = strict; sized = better.size ∙ sym e.size } in
    p.models m e.whole f (e.means o f better) room
