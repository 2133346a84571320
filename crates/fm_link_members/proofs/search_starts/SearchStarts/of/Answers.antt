use Rattle.std.proofs.Common.{sym, subst, length}
use Rattle.fm_link_members.specs.inner.Owners.{HaveOwners}
use Rattle.fm_link_members.proofs.search_starts.SearchStarts.of.Goals as goal

pub returns : goal.returns
returns c =
    let rows = c.args.members.now.rows.items in
    c.in_ok-starts.ensures
    (record {
      signatures = c.requires;
      owners = subst (HaveOwners rows c.args.signatures.now.of_members.items (length rows)) (sym c.as_slice.ensures.value) c.in_ok-owners.ensures;
    })
