use Rattle.std.proofs.Common.{List, [], ◌∷◌, map, rules}
use Rattle.fm_code.specs.declared.constant_pool.Entry.{Entry}
use Rattle.fm_code.specs.declared.cursor.AttributeParts.{AttributeParts}
use Rattle.fm_read.specs.inner.ClassParts.{AreClasses, HaveNames, IsSuperclass, PartsHaveNames}
use Rattle.fm_code.specs.inner.Reading.{attribute_view}
use Rattle.fm_read.proofs.class_file.has_valid_names.Goals as goal

-- what is cut is named as what is read
have_names : (entries : List Entry) (attributes : List AttributeParts) → PartsHaveNames entries attributes → HaveNames entries (map attribute_view attributes)
have_names entries [] all = tt
have_names entries (a ∷ attributes) all = (all.0, have_names entries attributes all.1)

parts_have_names : (entries : List Entry) (attributes : List AttributeParts) → HaveNames entries (map attribute_view attributes) → PartsHaveNames entries attributes
parts_have_names entries [] all = tt
parts_have_names entries (a ∷ attributes) all = (all.0, parts_have_names entries attributes all.1)

pub returns-then-are_classes : goal.returns-then-are_classes
returns-then-are_classes c =
    let entries = c.args.known.now.entries in
    let body = c.args.body.now in
    let super_class : IsSuperclass entries body.super_class = search rules in
    let interfaces : AreClasses entries body.interfaces.items = search rules in
    let same = c.as_slice-then-are_classes.ensures.value in (
      λ t. record {
        this_class = search rules;
        super_class = super_class;
        interfaces = interfaces;
        attributes = have_names entries body.attributes.items (rw (← same) (c.have_names.ensures.0 t));
      },
      λ names. c.have_names.ensures.1 (rw same (parts_have_names entries body.attributes.items names.attributes)),
    )
