use Rattle.std.proofs.Common.{◌≡◌, drop}
use Rattle.fm_world.specs.Declarations.{first_constant}
use Rattle.fm_link_names.proofs.declared.first_constant.Given as goal

abbrev pub invariant-loop-attribute : goal.invariant-loop-attribute
invariant-loop-attribute l =
    first_constant l.file.class.now.pool.entries (drop l.attribute-index l.attributes) ≡ first_constant l.file.class.now.pool.entries l.attributes
