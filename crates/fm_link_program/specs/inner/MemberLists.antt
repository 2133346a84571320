-- What rows of members say, one list for each of their parts.
use Rattle.std.specs.Prelude.{ℕ, List, map}
use Rattle.fm_link_members.specs.declared.members.MemberRow.{MemberRow}

-- the descriptor of each member
abbrev pub descriptors_in : List MemberRow → List ℕ
descriptors_in rows = map (λ (r : MemberRow). r.descriptor) rows

-- the flags of each member
abbrev pub flags_in : List MemberRow → List ℕ
flags_in rows = map (λ (r : MemberRow). r.flags) rows
