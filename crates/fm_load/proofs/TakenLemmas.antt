-- Classes that their own bytes spell.
use Rattle.std.proofs.Common.{List}
use Rattle.std.specs.List.{AllByRecursion}
use Rattle.fm_base.proofs.ListFacts.{AllByRecursion-weaker}
use Rattle.fm_code.specs.ClassBytes.{class_bytes}
use Rattle.fm_code.specs.Spells.{HasSpelling}
use Rattle.fm_code.specs.declared.class_file.ClassDef.{ClassDef}
use Rattle.fm_load.specs.Taking.{ClassIsSpelled}

-- some bytes spell them
pub have_spellings : (classes : List ClassDef) → AllByRecursion ClassIsSpelled classes → AllByRecursion HasSpelling classes
have_spellings classes spelled = AllByRecursion-weaker ClassIsSpelled HasSpelling (λ c spells. (class_bytes c, spells)) classes spelled
