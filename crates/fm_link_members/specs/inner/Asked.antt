-- The members that entries of pools name.
use Rattle.std.specs.Prelude.{ℕ, List, length, Option, None, option_and_then, option_map}
use Rattle.std.specs.List.{filter_map, range_with_len, slice_index_or}
use Rattle.fm_link_names.specs.declared.given.GivenFile.{GivenFile}
use Rattle.fm_link_names.specs.declared.given.MemberTexts.{MemberTexts}
use Rattle.fm_link_names.specs.inner.Files.{member_in}
use Rattle.fm_link_members.specs.declared.asked.Asked.{Asked}

-- a member by the number of its class, where the class is there
abbrev pub asked_of : List (Option ℕ) → MemberTexts → Option Asked
asked_of by_text member =
    option_map (λ class. record { class = class; name = member.name; descriptor = member.descriptor }) (slice_index_or by_text member.class None)

-- what the entry at an index of a file's pool names
abbrev pub asked_at : List (Option ℕ) → GivenFile → ℕ → Option Asked
asked_at by_text file index = option_and_then (asked_of by_text) (member_in file index)

-- what all entries of a file's pool name
abbrev pub asked_in : List (Option ℕ) → GivenFile → List Asked
asked_in by_text file = filter_map (asked_at by_text file) (range_with_len 0 (length file.texts.items))
