-- A class and the parts that it is read of.
use Rattle.std.proofs.Common.{◌≡◌, ℕ, List, ◌++◌, length, map, Some, None, refl, sym, ap, subst, ◌∙◌, append_assoc}
use Rattle.std.specs.List.{AllByRecursion}
use Rattle.std.proofs.lemmas.List.{length-map}
use Rattle.fm_code.specs.ClassBytes.{class_bytes, pool_bytes}
use Rattle.fm_code.specs.Fits.{AreBytes, ClassFits, CountedFits, FitsTwo, MemberFits}
use Rattle.fm_code.specs.Spells.{Spells}
use Rattle.fm_code.specs.declared.constant_pool.Pool.{Pool}
use Rattle.fm_code.specs.declared.class_file.ClassDef.{ClassDef}
use Rattle.fm_code.specs.declared.class_file.Member.{Member}
use Rattle.fm_code.specs.AccessFlags.{is_interface}
use Rattle.fm_code.proofs.Pieces.{some_is}
use Rattle.fm_read.specs.declared.head.Version.{Version}
use Rattle.fm_read.specs.inner.ClassParts.{class_made, IsClassOf, StartsWithPool}
use Rattle.fm_read.specs.inner.Head.{head_bytes, head_at, VersionFits}
use Rattle.fm_read.specs.inner.Parts.{raw_of_class, raw_of_member, RawBody, RawBodyFits, RawMember, RawMemberFits}
use Rattle.fm_read.specs.inner.Reading.{body_at}
use Rattle.fm_read.specs.inner.Rules.{AreFieldsOf, AreMethodsOf}
use Rattle.fm_read.proofs.HeadLemmas.{head_again}
use Rattle.fm_read.proofs.PartsPieces.{body_again, body_takes, raw_body_bytes}
use Rattle.fm_read.proofs.PoolLemmas.{one_pool}
use Rattle.fm_read.proofs.RecordParts.{class_fits, class_spelled}

-- ---- from parts to a class

-- members fit where their parts do
members_fit : (raws : List RawMember) (members : List Member) → map raw_of_member members ≡ raws → CountedFits RawMemberFits raws → AllByRecursion MemberFits members → CountedFits MemberFits members
members_fit raws members parts fits each = record {
  count = let same : length members ≡ length raws = sym (length-map members raw_of_member) ∙ ap length parts in subst FitsTwo (sym same) fits.count;
  each = each;
}

-- the parts of the record that was made of them
made_parts : (version : Version) (pool : Pool) (body : RawBody) (fields methods : List Member) → map raw_of_member fields ≡ body.fields → map raw_of_member methods ≡ body.methods → raw_of_class (class_made version pool body fields methods) ≡ body
made_parts version pool body fields methods fields_are methods_are = λ i. record {
  flags = body.flags;
  this_class = body.this_class;
  super_class = body.super_class;
  interfaces = body.interfaces;
  fields = fields_are i;
  methods = methods_are i;
  attributes = body.attributes;
}

-- it is spelled by their bytes
made_bytes : (version : Version) (bytes : List ℕ) (pool : Pool) (rest : List ℕ) (body : RawBody) (fields methods : List Member) → bytes ≡ pool_bytes pool ++ rest → rest ≡ raw_body_bytes body →
    map raw_of_member fields ≡ body.fields → map raw_of_member methods ≡ body.methods → head_bytes version ++ bytes ≡ class_bytes (class_made version pool body fields methods)
made_bytes version bytes pool rest body fields methods pool_is body_is fields_are methods_are =
    let made = class_made version pool body fields methods in
    let spelled : class_bytes made ≡ head_bytes version ++ (pool_bytes pool ++ raw_body_bytes (raw_of_class made)) = class_spelled made ∙ simp append_assoc in
    let same : rest ≡ raw_body_bytes (raw_of_class made) = body_is ∙ ap raw_body_bytes (sym (made_parts version pool body fields methods fields_are methods_are)) in
    ap (λ (w : List ℕ). head_bytes version ++ w) (pool_is ∙ ap (λ (w : List ℕ). pool_bytes pool ++ w) same) ∙ sym spelled

-- it fits where they do
made_fits : (version : Version) (pool : Pool) (body : RawBody) (fields methods : List Member) → VersionFits version → RawBodyFits body →
    AreFieldsOf (is_interface body.flags) pool.entries body.fields fields → AreMethodsOf (is_interface body.flags) pool.entries body.methods methods → ClassFits (class_made version pool body fields methods)
made_fits version pool body fields methods version_fits fits of_fields of_methods = record {
  minor = version_fits.minor;
  major = version_fits.major;
  flags = fits.flags;
  this_class = fits.this_class;
  super_class = fits.super_class;
  interfaces = fits.interfaces;
  fields = members_fit body.fields fields of_fields.parts fits.fields of_fields.fits;
  methods = members_fit body.methods methods of_methods.parts fits.methods of_methods.fits;
  attributes = fits.attributes;
}

-- what is read of the bytes after a head is spelled by the head and these bytes
pub is_spelled : (version : Version) (bytes : List ℕ) (pool : Pool) (rest : List ℕ) (body : RawBody) (c : ClassDef) → VersionFits version → StartsWithPool bytes pool rest → AreBytes rest → body_at rest ≡ Some body →
    IsClassOf version pool body c → Spells (head_bytes version ++ bytes) c
is_spelled version bytes pool rest body c version_fits starts rest_bytes read is_class =
    let taken = body_takes rest body rest_bytes read in
    let of_fields = is_class.fields in
    let of_methods = is_class.methods in
    let made : Spells (head_bytes version ++ bytes) (class_made version pool body c.fields c.methods) = record {
      bytes_are = made_bytes version bytes pool rest body c.fields c.methods starts.bytes_are taken.0 of_fields.parts of_methods.parts;
      fits = made_fits version pool body c.fields c.methods version_fits taken.1 of_fields of_methods;
      pool = starts.spelled;
      this_class = is_class.names.this_class;
      super_class = is_class.names.super_class;
      interfaces = is_class.names.interfaces;
      fields = of_fields.valid;
      distinct_fields = of_fields.distinct;
      methods = of_methods.valid;
      distinct_methods = of_methods.distinct;
      attributes = is_class.names.attributes;
    } in
    subst (λ (d : ClassDef). Spells (head_bytes version ++ bytes) d) (sym is_class.made) made

-- ---- from a class to its parts

abbrev pub version_of : ClassDef → Version
version_of c = record { major = c.major; minor = c.minor }

-- a class is one of its own parts
own_parts : (bytes : List ℕ) (c : ClassDef) → Spells bytes c → IsClassOf (version_of c) c.pool (raw_of_class c) c
own_parts bytes c spells = record {
  made = refl;
  names = record { this_class = spells.this_class; super_class = spells.super_class; interfaces = spells.interfaces; attributes = spells.attributes };
  fields = record { parts = refl; fits = spells.fits.fields.each; valid = spells.fields; distinct = spells.distinct_fields };
  methods = record { parts = refl; fits = spells.fits.methods.each; valid = spells.methods; distinct = spells.distinct_methods };
}

-- what is after the head of a class
pub record SpellsParts (version : Version) (bytes : List ℕ) (c : ClassDef) : Type 0 where
  pub version_is : version ≡ version_of c
  pub starts : StartsWithPool bytes c.pool (raw_body_bytes (raw_of_class c))

pub spells_parts : (version : Version) (bytes : List ℕ) (c : ClassDef) → VersionFits version → Spells (head_bytes version ++ bytes) c → SpellsParts version bytes c
spells_parts version bytes c version_fits spells =
    let after = pool_bytes c.pool ++ raw_body_bytes (raw_of_class c) in
    let own : head_bytes version ++ bytes ≡ head_bytes (version_of c) ++ after = spells.bytes_are ∙ (class_spelled c ∙ simp append_assoc) in
    let read = sym (head_again version bytes version_fits) ∙ ap head_at own ∙ head_again (version_of c) after (record { major = spells.fits.major; minor = spells.fits.minor }) in
    let same = some_is (version, bytes) (version_of c, after) read in
    record { version_is = ap (λ (x : Version × List ℕ). x.0) same; starts = record { bytes_are = ap (λ (x : Version × List ℕ). x.1) same; spelled = spells.pool } }

-- what is read of the pool and of the parts is that of the class
pub parts_are_read : (version : Version) (bytes : List ℕ) (pool : Pool) (rest : List ℕ) (c : ClassDef) → VersionFits version → StartsWithPool bytes pool rest → Spells (head_bytes version ++ bytes) c →
    (pool ≡ c.pool) × (body_at rest ≡ Some (raw_of_class c))
parts_are_read version bytes pool rest c version_fits starts spells =
    let parts = spells_parts version bytes c version_fits spells in
    let same = one_pool bytes pool c.pool rest (raw_body_bytes (raw_of_class c)) starts parts.starts in
    (same.0, ap body_at same.1 ∙ body_again (raw_of_class c) (class_fits c spells.fits))

-- where the parts aren't read, no class is spelled
pub no_parts : (version : Version) (bytes : List ℕ) (pool : Pool) (rest : List ℕ) (c : ClassDef) → VersionFits version → StartsWithPool bytes pool rest → body_at rest ≡ None → Spells (head_bytes version ++ bytes) c → ⊥
no_parts version bytes pool rest c version_fits starts none spells =
    let read = parts_are_read version bytes pool rest c version_fits starts spells in cc read.1

-- a class that is spelled is one of the parts that are read
pub is_class_of : (version : Version) (bytes : List ℕ) (pool : Pool) (rest : List ℕ) (body : RawBody) (c : ClassDef) → VersionFits version → StartsWithPool bytes pool rest → body_at rest ≡ Some body →
    Spells (head_bytes version ++ bytes) c → IsClassOf version pool body c
is_class_of version bytes pool rest body c version_fits starts read spells =
    let parts = spells_parts version bytes c version_fits spells in
    let own = parts_are_read version bytes pool rest c version_fits starts spells in
    let body_is : body ≡ raw_of_class c = some_is body (raw_of_class c) (sym read ∙ own.1) in
    let of_body : IsClassOf (version_of c) c.pool body c = subst (λ (b : RawBody). IsClassOf (version_of c) c.pool b c) (sym body_is) (own_parts (head_bytes version ++ bytes) c spells) in
    let of_pool : IsClassOf (version_of c) pool body c = subst (λ (p : Pool). IsClassOf (version_of c) p body c) (sym own.0) of_body in
    subst (λ (v : Version). IsClassOf v pool body c) (sym parts.version_is) of_pool
