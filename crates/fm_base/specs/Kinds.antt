-- How many words values of a kind have (JVMS 2.6.1, 2.6.2).
use Rattle.std.specs.Prelude.{ℕ}
use Rattle.fm_base.specs.declared.kinds.Kind.{Kind}
use Rattle.fm_base.specs.declared.kinds.Kind.TheVariants as kind

-- a long has two words on a stack and among locals, each other kind one
abbrev pub kind_words : Kind → ℕ
kind_words kind.Long = 2
kind_words k = 1
