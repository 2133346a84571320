-- The places of fields, one after the other.
use Rattle.std.proofs.Common.{◌≡◌, sym, ◌∙◌, ap, ℕ, ◌+◌, ◌<◌, List, ◌++◌, length, drop, get_or, slice_index, append_assoc}
use Rattle.fm_base.proofs.ListFacts.{drop_here}
use Rattle.fm_world.specs.declared.declarations.DeclaredClass.{DeclaredClass}
use Rattle.fm_link_records.specs.inner.Fields.{slots_among, slots_told, static_fields}

-- the places of one class's fields more
pub class_slots : (bases : List ℕ) (class : ℕ) (classes : List DeclaredClass) (c : DeclaredClass) (old new all : List ℕ) (before after base : ℕ)
    → class < length classes → c ≡ get_or classes class c → base ≡ slice_index bases class
    → new ≡ old ++ slots_among before base c.fields → after ≡ before + static_fields c.fields
    → old ++ slots_told bases before class (drop class classes) ≡ all
    → new ++ slots_told bases after (class + 1) (drop (class + 1) classes) ≡ all
class_slots bases class classes c old new all before after base within here at added counted known =
    let rest = drop (class + 1) classes in
    ap (λ zs. zs ++ slots_told bases after (class + 1) rest) added
    ∙ ap (λ n. (old ++ slots_among before base c.fields) ++ slots_told bases n (class + 1) rest) counted
    ∙ append_assoc old (slots_among before base c.fields) (slots_told bases (before + static_fields c.fields) (class + 1) rest)
    ∙ ap (λ b. old ++ (slots_among before b c.fields ++ slots_told bases (before + static_fields c.fields) (class + 1) rest)) at
    ∙ ap (λ cs. old ++ slots_told bases before class cs) (sym (drop_here classes class c within here))
    ∙ known
