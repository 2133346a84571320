-- The tables of a program serve also where it is narrowed.
use Rattle.std.proofs.Common.{Bool, List, None, Some}
use Rattle.fm_world.specs.Programs.{method_info}
use Rattle.fm_world.specs.declared.parts.Parts.{Parts}
use Rattle.fm_world.specs.inner.Tables.{AreTables}

-- none of them looks at the classes that are made, but for the targets that are known
pub narrowed_tables : (x : Parts) (made : List Bool) → AreTables x → AreTables (record x { made = Some made; known = None })
unfolding method_info
narrowed_tables x made t = record {
  few = record { classes = t.few.classes; methods = t.few.methods; fields = t.few.fields; types = t.few.types; texts = t.few.texts };
  classes = t.classes;
  methods = t.methods;
  fields = t.fields;
  statics = t.statics;
  answers = record {
    linear = t.answers.linear;
    displays = t.answers.displays;
    interfaces = t.answers.interfaces;
    only_interfaces = t.answers.only_interfaces;
    signatures = t.answers.signatures;
    selected = t.answers.selected;
  };
  calls = record { object = t.calls.object; one_each = t.calls.one_each; own = t.calls.own };
  known = tt;
}
