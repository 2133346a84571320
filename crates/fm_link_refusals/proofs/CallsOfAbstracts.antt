-- Special calls of abstract methods, and what is known of methods that are found.
use Rattle.std.proofs.Common.{◌≡◌, refl, sym, ◌∙◌, ap, ℕ, ◌<◌, ◌≤◌, ◌||◌, Bool, true, false, cond, List, [], ◌∷◌, length, map, get_or, Option, Some, None, option_and_then, position, arith}
use Rattle.std.specs.Str.{bytes_eq}
use Rattle.std.proofs.lemmas.List.{get_or_past}
use Rattle.std.proofs.lemmas.List.Quantifiers.{position-Some}
use Rattle.std.proofs.lemmas.Iterator.Adapters.{position_from-zero}
use Rattle.std.proofs.lemmas.List.{length-map}
use Rattle.fm_code.specs.ConstantPool.{entry_at, MemberName}
use Rattle.fm_code.specs.declared.class_file.ClassDef.{ClassDef}
use Rattle.fm_code.specs.declared.constant_pool.Entry.TheVariants as entry
use Rattle.fm_link_members.proofs.SectionLemmas.{is_named, own_method-position}
use Rattle.fm_link_members.specs.inner.MemberRows.{method_alike, Owned}
use Rattle.fm_world.specs.Causes.{NotImplemented, calls_abstract, is_there_and, method_text, refused, refused_if, refused_where}
use Rattle.fm_world.specs.Chains.{first_found}
use Rattle.fm_world.specs.Descriptors.{class_number}
use Rattle.fm_world.specs.Lookups.{any_flags, class_searched, constructor_name, constructor_path, is_abstract_method, method_path, resolved_method, special_target}
use Rattle.fm_world.specs.Members.{method_among, methods_of, own_method}
use Rattle.fm_world.specs.Uses.{named_member, pool_indices}
use Rattle.fm_world.specs.declared.declarations.DeclaredClass.{DeclaredClass}
use Rattle.fm_link_supers.proofs.ParentTables.{row_at}
use Rattle.fm_link_refusals.specs.inner.Abstracts.{call_refusals, calls_abstract_at, is_member_and, special_call}

-- ---- the marks of a pool's indices

past_pool : (classes : List DeclaredClass) (c : ClassDef) (class i : ℕ) → length c.pool.entries ≤ i → calls_abstract_at classes c class i ≡ false
past_pool classes c class i past = let e : entry_at c.pool.entries i ≡ entry.Second = get_or_past c.pool.entries i entry.Second past in rw e refl

pub marked_call : (classes : List DeclaredClass) (c : ClassDef) (class : ℕ) (marks : List Bool) (i : ℕ) → marks
    ≡ map (calls_abstract_at classes c class) (pool_indices c)
    → get_or marks i false ≡ calls_abstract_at classes c class i
marked_call classes c class marks i are = row_at (calls_abstract_at classes c class) (length c.pool.entries) false
    (past_pool classes c class) marks are i

pub unmarked_call : (classes : List DeclaredClass) (c : ClassDef) (class i : ℕ) → calls_abstract_at classes c class i ≡ false
    → special_call classes c class i ≡ []
unmarked_call classes c class i e = go (named_member c.pool.entries i) e where
  go : (o : Option MemberName) → is_member_and (calls_abstract classes class) o ≡ false → refused_where (call_refusals classes c class) o ≡ []
  go None e = refl
  go (Some m) e = ap (λ b. refused_if b (refused NotImplemented c (method_text m))) e

pub unnamed_call : (classes : List DeclaredClass) (c : ClassDef) (class i : ℕ) → named_member c.pool.entries i ≡ None
    → special_call classes c class i ≡ []
unnamed_call classes c class i e = ap (refused_where (call_refusals classes c class)) e

pub named_call : (classes : List DeclaredClass) (c : ClassDef) (class i : ℕ) (m : MemberName) → named_member c.pool.entries i ≡ Some m
    → calls_abstract_at classes c class i ≡ true
    → special_call classes c class i ≡ refused NotImplemented c (method_text m) ∷ []
named_call classes c class i m named e =
    ap (refused_where (call_refusals classes c class)) named
    ∙ ap (λ b. refused_if b (refused NotImplemented c (method_text m))) (sym (ap (is_member_and (calls_abstract classes class)) named) ∙ e)

-- ---- one call

abbrev is_wrong : List DeclaredClass → ℕ → MemberName → ℕ → Bool
is_wrong classes caller m method = is_abstract_method classes method
    || is_abstract_method classes (special_target classes caller (class_number classes m.class) method)

pub calls_none : (classes : List DeclaredClass) (caller : ℕ) (m : MemberName) → resolved_method classes m ≡ None → calls_abstract classes caller m
    ≡ false
calls_none classes caller m e = ap (is_there_and (is_wrong classes caller m)) e

pub calls_some : (classes : List DeclaredClass) (caller : ℕ) (m : MemberName) (method : ℕ) → resolved_method classes m ≡ Some method
    → calls_abstract classes caller m ≡ (is_abstract_method classes method
    || is_abstract_method classes (special_target classes caller (class_number classes m.class) method))
calls_some classes caller m method e = ap (is_there_and (is_wrong classes caller m)) e

-- ---- numbers of methods that are found

own_within : (classes : List DeclaredClass) (passes : ℕ → Bool) (name descriptor : List ℕ) (class k : ℕ)
    → own_method classes passes name descriptor class ≡ Some k
    → k < length (methods_of classes)
own_within classes passes name descriptor class k found =
    let owned = map method_alike (methods_of classes) in
    let test = is_named passes name descriptor class in
    let none : Owned = record { class = 0; name = []; descriptor = []; flags = 0 } in
    let at : position test owned ≡ Some k = position_from-zero test owned ∙ sym (own_method-position classes passes name descriptor class) ∙ found in
    let long = length-map (methods_of classes) method_alike in
    let inside = (position-Some test owned k none at).0 in
    omega (arith, long, inside)

first_within : (find : ℕ → Option ℕ) (n : ℕ) → ((class k : ℕ) → find class ≡ Some k → k < n) → (path : List ℕ) (k : ℕ) → first_found find path
    ≡ Some k → k < n
first_within find n each [] k found = absurd (no_value found) where
  no_value : {X : Type 0} {x : X} → None ≡ Some x → ⊥
  no_value e = cc
first_within find n each (class ∷ path) k found = go (find class) refl found (first_within find n each path k) where
  go : (o : Option ℕ) → find class ≡ o → first_found find (class ∷ path) ≡ Some k → (first_found find path ≡ Some k → k < n) → k < n
  go None here e after = after (rw here at e)
  go (Some j) here e after = each class k (here ∙ (rw here at e))

pub resolved_within : (classes : List DeclaredClass) (m : MemberName) (k : ℕ) → resolved_method classes m ≡ Some k → k < length (methods_of classes)
unfolding resolved_method
resolved_within classes m k found = by_name (bytes_eq m.name constructor_name) found where
  among : (path : List ℕ) → method_among classes any_flags m.name m.descriptor path ≡ Some k → k < length (methods_of classes)
  among path e = first_within (own_method classes any_flags m.name m.descriptor) (length (methods_of classes))
      (own_within classes any_flags m.name m.descriptor) path k e

  in_path : (path_of : ℕ → List ℕ) (o : Option ℕ) → option_and_then (λ class. method_among classes any_flags m.name m.descriptor (path_of class)) o
      ≡ Some k
      → k < length (methods_of classes)
  in_path path_of None e = absurd (no_value e) where
    no_value : {X : Type 0} {x : X} → None ≡ Some x → ⊥
    no_value e = cc
  in_path path_of (Some class) e = among (path_of class) e

  by_name : (b : Bool) → cond b (option_and_then (λ class. method_among classes any_flags m.name m.descriptor (constructor_path classes class))
      (class_number classes m.class))
      (option_and_then (λ class. method_among classes any_flags m.name m.descriptor (method_path classes class)) (class_searched classes m.class))
      ≡ Some k
      → k < length (methods_of classes)
  by_name true e = in_path (constructor_path classes) (class_number classes m.class) e
  by_name false e = in_path (method_path classes) (class_searched classes m.class) e
