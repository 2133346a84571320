use Rattle.std.proofs.Common.{List, subst, sym}
use Rattle.fm_code.specs.declared.class_file.Member.{Member}
use Rattle.fm_load.specs.ClassRefusal.{HasNameAt}
use Rattle.fm_load.proofs.NameLemmas.{method_has_name, place_has_name}
use Rattle.fm_load.proofs.judging.judge.Goals as goal

pub member_name-requires : goal.member_name-requires
member_name-requires c =
    let Has : List Member → Type 0 = λ methods. HasNameAt c.args.class.now.pool.entries methods c.in-Err.over.method in
    subst Has (sym c.deref.ensures) (method_has_name c.requires.0 c.args.class.now c.in-Err.over c.requires.1 c.in-Err.ensures.first)

pub place_name-requires : goal.place_name-requires
place_name-requires c =
    place_has_name c.requires.0 c.args.class.now c.in-Err-supported.unsupported.place c.in-Err-supported.unsupported.offset c.requires.1 c.in-Err-supported.ensures.first
