use Rattle.std.proofs.Common.{◌≡◌, drop}
use Rattle.fm_code.specs.Members.{code_of}
use Rattle.fm_code.proofs.class_file.Member.code.Given as goal

-- the attributes that are left decide
abbrev pub invariant-loop-attribute : goal.invariant-loop-attribute
invariant-loop-attribute l = code_of (record l.self { attributes = drop l.attribute-index l.self.attributes }) ≡ code_of l.self
