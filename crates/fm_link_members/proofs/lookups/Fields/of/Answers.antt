use Rattle.std.proofs.Common.{subst}
use Rattle.fm_link_members.proofs.SectionRows.{AreSections-fields}
use Rattle.fm_link_members.proofs.StartLemmas.{starts_along_paths}
use Rattle.fm_link_members.specs.inner.MemberTables.{AreSignatures, MarksInterfaces}
use Rattle.fm_link_members.proofs.lookups.Fields.of.Goals as goal

pub returns : goal.returns
returns c = λ texts classes distinct is rows. record {
  distinct = distinct;
  rows = rows;
  signatures = subst (λ xs. AreSignatures xs c.in_ok-signatures.signatures) c.as_slice.ensures.value c.in_ok-signatures.ensures;
  nearest = c.in_ok-nearest.ensures classes is (AreSections-fields texts classes c.args.members rows);
  in_interfaces = subst (λ cs. MarksInterfaces cs c.args.members.rows.items c.in_ok-signatures.signatures.of_members.items
      c.in_ok-in_interfaces.in_interfaces.items) is.classes_are c.in_ok-in_interfaces.ensures;
  starts = starts_along_paths classes c.args.hierarchy.now is c.args.members.rows.items c.in_ok-signatures.signatures.of_members.items
      c.in_ok-starts.starts c.in_ok-starts.ensures;
}
