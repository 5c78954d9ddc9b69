use Rattle.logic.proofs.Soundness.{soundness, no_model}
use Rattle.logic.proofs.NamedLive.{named_live}
use Rattle.logic.proofs.laws.calculus_sound.Goals as goal

pub returns : goal.returns
returns c = record { named = soundness; live = named_live; books = no_model }
