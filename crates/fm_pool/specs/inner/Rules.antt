-- What the rules of a pool's entries ask of its texts.
use Rattle.std.specs.Prelude.{ℕ, List, Option, Some, None}
use Rattle.std.specs.Option.{option_map}
use Rattle.fm_base.specs.Texts.{IsModifiedUtf8}
use Rattle.fm_code.specs.ConstantPool.{member_named, EntryIsValid}
use Rattle.fm_code.specs.declared.constant_pool.Entry.{Entry}
use Rattle.fm_code.specs.declared.constant_pool.Entry.TheVariants as entry
use Rattle.fm_pool_texts.specs.Facts.{AreFactsOf}
use Rattle.fm_pool_texts.specs.declared.facts.TextFacts.{TextFacts}

-- the facts of the name and of the descriptor that may be there
abbrev pub ArePairFacts : Option (List ℕ × List ℕ) → Option (TextFacts × TextFacts) → Type 0
ArePairFacts None None = Unit {0}
ArePairFacts (Some pair) (Some facts) = AreFactsOf pair.0 facts.0 × AreFactsOf pair.1 facts.1
ArePairFacts pair facts = ⊥

-- an entry that is a text is one in modified UTF-8
abbrev pub TextIsValid : Entry → Type 0
TextIsValid (entry.Utf8 name) = IsModifiedUtf8 name
TextIsValid e = Unit {0}

-- an entry that names others names what it has to
abbrev pub NamesAreValid : List Entry → Entry → Type 0
NamesAreValid entries (entry.Utf8 name) = Unit {0}
NamesAreValid entries e = EntryIsValid entries e

-- the descriptor of the member that two indices name
abbrev pub descriptor_named : List Entry → ℕ → ℕ → Option (List ℕ)
descriptor_named entries class member = option_map (λ m. m.descriptor) (member_named entries class member)
