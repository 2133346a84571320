use Rattle.std.proofs.Common.{refl, sym, ◌∙◌, ap, ℕ}
use Rattle.std.specs.Global.{Vec}
use Rattle.std.proofs.lemmas.List.{length-map}
use Rattle.fm_link_supers.proofs.NamedParentLemmas.{listed_are, parents_are}
use Rattle.fm_link_supers.specs.inner.ListTables.{lists}
use Rattle.fm_world.specs.BuiltIns.{object_name}
use Rattle.fm_link_supers.proofs.hierarchy.Ancestors.of.Goals as goal

pub returns : goal.returns
returns c names =
    let classes = c.args.classes.now in
    let listed = c.in_ok-listed.ensures ∙ listed_are classes c.args.numbers.now c.args.by_text.now c.args.files.now names in
    let found = c.in_ok-found.ensures classes (ap lists c.as_slice.ensures.value ∙ listed) in
    record {
      classes_are = refl;
      parents = c.in_ok-parents.ensures ∙ parents_are classes c.args.numbers.now c.args.by_text.now c.args.files.now names;
      listed = listed;
      cycles = found.goes_on;
      one_each = sym (length-map c.in_ok-found.found.above.items (λ (v : Vec ℕ). v.items)) ∙ found.above.one_each;
      above = found.above.found;
      object = c.number.ensures ∙ names.by_name object_name;
    }
