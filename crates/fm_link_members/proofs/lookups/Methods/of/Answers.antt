use Rattle.std.proofs.Common.{subst}
use Rattle.fm_link_members.proofs.SectionRows.{AreSections-methods}
use Rattle.fm_link_members.proofs.StartLemmas.{starts_along_interfaces}
use Rattle.fm_link_members.specs.inner.MemberTables.{AreSignatures}
use Rattle.fm_link_members.proofs.lookups.Methods.of.Goals as goal

pub returns : goal.returns
returns c = λ texts classes distinct is rows constructor.
    let sections = AreSections-methods texts classes c.args.members rows in
    record {
      distinct = distinct;
      rows = rows;
      signatures = subst (λ xs. AreSignatures xs c.in_ok-signatures.signatures) c.as_slice.ensures.value c.in_ok-signatures.ensures;
      nearest = c.in_ok-nearest.ensures classes is sections;
      of_objects = c.in_ok-of_objects.ensures classes is sections;
      selectable = c.in_ok-selectable.ensures classes is sections;
      starts = starts_along_interfaces classes c.args.hierarchy.now is c.args.members.rows.items c.in_ok-signatures.signatures.of_members.items
          c.in_ok-starts.starts c.in_ok-starts.ensures;
      constructor = constructor;
    }
