use Rattle.fm_code.specs.Numbers.{two}
use Rattle.fm_code.specs.ClassBytes.{class_bytes, counted, magic, member_bytes, raw_bytes}
use Rattle.fm_code.proofs.Bytes.{magic_bytes}
use Rattle.std.proofs.Common.{List, ℕ, ◌++◌, ap, ◌∙◌}
use Rattle.fm_write.proofs.PutLemmas.{no_piece, next_piece, next_list}
use Rattle.fm_write.proofs.class_file.bytes_of.Goals as goal

-- each call puts its piece after those before
pub returns : goal.returns
unfolding class_bytes
returns c =
    let front = next_piece (no_piece c.new-out.ensures.items) magic (c.in_ok-put_u32.ensures ∙ ap (λ (piece : List ℕ). c.new-out.result.items ++ piece) magic_bytes) in
    let minor = next_piece front _ c.in_ok-put_u16.ensures in
    let major = next_piece minor _ c.in_ok-put_u16-2.ensures in
    let pool = next_piece major _ c.in_ok-write_pool.ensures.written in
    let flags = next_piece pool _ c.in_ok-put_u16-3.ensures in
    let this_class = next_piece flags _ c.in_ok-put_u16-4.ensures in
    let super_class = next_piece this_class _ c.in_ok-put_u16-5.ensures in
    let interfaces = next_list super_class (counted two) c.deref.ensures c.in_ok-put_indices.ensures in
    let fields = next_list interfaces (counted member_bytes) c.deref-2.ensures c.in_ok-put_members.ensures in
    let methods = next_list fields (counted member_bytes) c.deref-3.ensures c.in_ok-put_members-2.ensures in
    let attributes = next_list methods (counted raw_bytes) c.deref-4.ensures c.in_ok-put_raws.ensures in
    attributes.bytes_are
