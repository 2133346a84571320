use Rattle.std.proofs.Common.{refl}
use Rattle.fm_code.proofs.CompiledExample.{compiled_spelled, compiled_accepted}
use Rattle.fm_code.proofs.laws.law_compiled_example.Goals as goal

pub returns : goal.returns
returns c = record { size = refl; spelled = compiled_spelled; accepted = compiled_accepted }
