-- The tables of superclasses and of methods return what a program looks up.
use Rattle.std.proofs.Common.{◌≡◌, refl, sym, ◌∙◌, ap, subst, ℕ, zero, suc, ◌+◌, ◌-◌, ◌<◌, ◌&&◌, Bool, cond, nat_eq, List, [], length, map, reverse, get_or, Option, Some, None, slice_get, IsSomeAnd, arith}
use Rattle.std.specs.HashMap.{get}
use Rattle.std.specs.Option.{option_and_then}
use Rattle.std.proofs.lemmas.Option.{slice_get-get_or}
use Rattle.std.proofs.lemmas.List.FromFn.{length-map-range_with_len}
use Rattle.fm_link_members.proofs.LookupLemmas.{method_row, methods_within, nearest_by_method}
use Rattle.fm_link_members.proofs.NearestLemmas.{own_by-section}
use Rattle.fm_link_members.proofs.SectionLemmas.{own_method-position}
use Rattle.fm_link_members.proofs.SectionRows.{AreSections-methods}
use Rattle.fm_link_members.proofs.SignatureLemmas.{own_by-named, signature_at}
use Rattle.fm_link_supers.specs.declared.hierarchy.Hierarchy.{Hierarchy}
use Rattle.fm_link_members.specs.declared.lookups.Methods.{Methods}
use Rattle.fm_link_members.specs.declared.members.MemberRow.{MemberRow}
use Rattle.fm_link_supers.specs.inner.Hierarchy.{IsHierarchy}
use Rattle.fm_link_supers.specs.inner.ListTables.{lists}
use Rattle.fm_link_members.specs.inner.MemberRows.{method_alike, no_row, section_of, Owned}
use Rattle.fm_link_members.specs.inner.MemberTables.{first_from, own_by, AreMethods}
use Rattle.fm_link_members.specs.inner.NearestSteps.{is_signed}
use Rattle.fm_world.specs.Chains.{chain_of, interfaces_of}
use Rattle.fm_world.specs.Lookups.{is_selectable}
use Rattle.fm_world.specs.Members.{first_method, is_instance, method_among, method_at, methods_of, own_method}
use Rattle.fm_world.specs.declared.declarations.DeclaredClass.{DeclaredClass}
use Rattle.fm_world.specs.declared.layers.Layers.{Layers}
use Rattle.fm_world.specs.declared.parts.Parts.{Parts}
use Rattle.fm_world.specs.inner.Layers.{value_at, value_of_entry}
use Rattle.fm_world.specs.inner.Nodes.{entry_of}
use Rattle.fm_world.specs.inner.Tables.{AnswerForCalls, AnswerForClasses, AreInterfaces}
use Rattle.fm_link_records.specs.inner.Own.{own_from, AreOwnTables, IsOwnTable}
use Rattle.fm_link_records.proofs.Assembled.{displays-all}

-- ---- selected methods

-- tables by equal nodes return the same
value_at-copied : (x y : Layers) (table key : ℕ) → y.nodes.items ≡ x.nodes.items → y.levels ≡ x.levels → value_at y table key ≡ value_at x table key
value_at-copied x y table key nodes levels =
    ap (λ ns. value_of_entry (entry_of ns y.levels table key)) nodes ∙ ap (λ n. value_of_entry (entry_of x.nodes.items n table key)) levels

-- what the table of a class has, where the class has one
told_at : (x y : Layers) (tops : List ℕ) (class key : ℕ) (answer : Option ℕ) → y.nodes.items ≡ x.nodes.items → y.levels ≡ x.levels
    → class < length tops
    → option_and_then (λ table. value_at x table key) (slice_get tops class) ≡ answer
    → IsSomeAnd (slice_get tops class) (λ table. value_at y table key ≡ answer)
told_at x y tops class key answer nodes levels within is =
    let table = get_or tops class 0 in
    let there : slice_get tops class ≡ Some table = slice_get-get_or tops class 0 within in
    let P : Option ℕ → Type 0 = λ o. IsSomeAnd o (λ t. value_at y t key ≡ answer) in
    subst P (sym there) (value_at-copied x y table key nodes levels ∙ sym (ap (option_and_then (λ t. value_at x t key)) there) ∙ is)

pub classes-answered : (texts : List (List ℕ)) (x : Parts) (h : Hierarchy) (m : Methods) → IsHierarchy x.declared h → AreMethods texts x.declared m
    → ((class : ℕ) → AreInterfaces x.declared (interfaces_of x.declared class))
    → x.displays ≡ map reverse (lists h.chains.items) → x.interfaces ≡ lists h.interfaces.items → x.signatures ≡ m.signatures.of_members.items
    → x.selected.nodes.items ≡ m.selectable.layers.nodes.items → x.selected.levels ≡ m.selectable.layers.levels → x.tops ≡ m.selectable.tops.items
    → length m.signatures.of_members.items ≡ length (methods_of x.declared)
    → AnswerForClasses x
classes-answered texts x h m hierarchy methods only displays interfaces signatures nodes levels tops count = record {
  linear = hierarchy.linear;
  displays = displays-all x.declared x.displays (lists h.chains.items) hierarchy.chains displays;
  interfaces = interfaces ∙ hierarchy.interfaces;
  only_interfaces = λ class within. only class;
  signatures = ap length signatures ∙ count;
  selected = selected;
} where
  selected : (class method : ℕ) → class < length x.declared → method < length (methods_of x.declared)
      → IsSomeAnd (slice_get x.tops class) (λ table. value_at x.selected table (get_or x.signatures method 0)
      ≡ method_among x.declared is_selectable (method_at x.declared method).method.name (method_at x.declared method).method.descriptor
      (chain_of x.declared class))
  selected class method within m_within =
      let answer = method_among x.declared is_selectable (method_at x.declared method).method.name (method_at x.declared method).method.descriptor
      (chain_of x.declared class) in
      let P : List ℕ → Type 0 = λ ts. IsSomeAnd (slice_get ts class) (λ table. value_at x.selected table (get_or x.signatures method 0) ≡ answer) in
      let Q : List ℕ → Type 0 = λ ss. IsSomeAnd (slice_get m.selectable.tops.items class) (λ table. value_at x.selected table (get_or ss method 0)
      ≡ answer) in
      let one_each = methods.selectable.one_each in
      subst P (sym tops) (subst Q (sym signatures)
      (told_at m.selectable.layers x.selected m.selectable.tops.items class (get_or m.signatures.of_members.items method 0) answer nodes levels
      (omega (arith, within, one_each))
      (nearest_by_method texts x.declared m methods is_selectable m.selectable methods.selectable class method within m_within)))

-- ---- a class's own methods

-- the first of a given number, written in two ways
own_from-signed : (rows : List MemberRow) (signatures flags : List ℕ) (signature : ℕ)
    → ((k : ℕ) → get_or flags k 0 ≡ (get_or rows k no_row).flags) → (count start : ℕ)
    → own_from signatures flags signature count start ≡ first_from (is_signed rows signatures is_instance signature) count start
own_from-signed rows signatures flags signature same zero start = refl
own_from-signed rows signatures flags signature same (suc count) start =
    let q : ℕ → Bool = is_signed rows signatures is_instance signature in
    let next : start + 1 ≡ suc start = omega arith in
    ap (λ f. cond (nat_eq (get_or signatures start 0) signature && is_instance f) (Some start) (own_from signatures flags signature count (start +
    1)))
    (same start)
    ∙ ap (cond (q start) (Some start)) (own_from-signed rows signatures flags signature same count (start + 1) ∙ ap (first_from q count) next)

-- the class's own method by the signature of a method
own_by_method : (texts : List (List ℕ)) (classes : List DeclaredClass) (m : Methods) → AreMethods texts classes m → (passes : ℕ → Bool)
    (class method : ℕ) → method < length (methods_of classes)
    → own_by m.members.rows.items m.signatures.of_members.items passes (get_or m.signatures.of_members.items method 0) class
    ≡ own_method classes passes (method_at classes method).method.name (method_at classes method).method.descriptor class
own_by_method texts classes m are passes class method m_within =
    own_by-named texts m.members.rows.items (map method_alike (methods_of classes)) m.signatures are.distinct are.rows.rows are.signatures passes
    row.name
    row.descriptor (get_or m.signatures.of_members.items method 0) (method_at classes method).method.name (method_at classes method).method.descriptor
    class name_there descriptor_there (signature_at m.members.rows.items m.signatures are.signatures method rows_within)
    ∙ sym (own_method-position classes passes (method_at classes method).method.name (method_at classes method).method.descriptor class) where
      row : MemberRow
      row = get_or m.members.rows.items method no_row

      rows_within : method < length m.members.rows.items
      rows_within = methods_within texts classes m are method m_within

      there : slice_get m.members.rows.items method ≡ Some row
      there = slice_get-get_or m.members.rows.items method no_row rows_within

      name_there : slice_get texts row.name ≡ Some (method_at classes method).method.name
      name_there = slice_get-get_or texts row.name [] (are.rows.rows.names method row there)
          ∙ ap (λ (o : Owned). Some o.name) (method_row texts classes m are method m_within)

      descriptor_there : slice_get texts row.descriptor ≡ Some (method_at classes method).method.descriptor
      descriptor_there = slice_get-get_or texts row.descriptor [] (are.rows.rows.descriptors method row there)
          ∙ ap (λ (o : Owned). Some o.descriptor) (method_row texts classes m are method m_within)

-- a class's section among the methods
section_at : (first : List ℕ) (class : ℕ) → class + 1 < length first → section_of first class ≡ (get_or first class 0, get_or first (class + 1) 0)
section_at first class h =
    let one = slice_get-get_or first class 0 (omega (arith, h)) in
    let two = slice_get-get_or first (class + 1) 0 h in
    rw (one, two) refl

some_weaker : {A : Type 0} (P Q : A → Type 0) (o : Option A) → ((x : A) → P x → Q x) → IsSomeAnd o P → IsSomeAnd o Q
some_weaker P Q None f h = absurd h
some_weaker P Q (Some x) f h = f x h

pub calls-answered : (texts : List (List ℕ)) (x : Parts) (h : Hierarchy) (m : Methods) (flags : List ℕ) → IsHierarchy x.declared h
    → AreMethods texts x.declared m → h.object ≡ Some x.object.0 → x.signatures ≡ m.signatures.of_members.items
    → ((k : ℕ) → get_or flags k 0 ≡ (get_or m.members.rows.items k no_row).flags)
    → length x.own ≡ length x.declared → AreOwnTables m.members.first.items m.signatures.of_members.items flags x.own
    → AnswerForCalls x
calls-answered texts x h m flags hierarchy methods object signatures same count own = record {
  object = sym hierarchy.object ∙ object;
  one_each = count;
  own = owned;
} where
  owned : (class method : ℕ) → class < length x.declared → method < length (methods_of x.declared)
      → IsSomeAnd (slice_get x.own class) (λ table. get nat_eq table (get_or x.signatures method 0)
      ≡ own_method x.declared is_instance (method_at x.declared method).method.name (method_at x.declared method).method.descriptor class)
  owned class method within m_within =
      let first = m.members.first.items in
      let sigs = m.signatures.of_members.items in
      let s = get_or sigs method 0 in
      let long : length first ≡ length x.declared + 1 =
      ap length methods.rows.first ∙ length-map-range_with_len (first_method x.declared) 0 (length x.declared + 1) in
      some_weaker (IsOwnTable sigs flags (get_or first class 0) (get_or first (class + 1) 0))
      (λ table. get nat_eq table (get_or x.signatures method 0)
      ≡ own_method x.declared is_instance (method_at x.declared method).method.name (method_at x.declared method).method.descriptor class)
      (slice_get x.own class)
      (λ table is. ap (λ ss. get nat_eq table (get_or ss method 0)) signatures ∙ is s
      ∙ own_from-signed m.members.rows.items sigs flags s same (get_or first (class + 1) 0 - get_or first class 0) (get_or first class 0)
      ∙ own_by-section x.declared m.members (AreSections-methods texts x.declared m.members methods.rows) sigs is_instance s class (get_or first
      class 0)
      (get_or first (class + 1) 0) within (section_at first class (omega (arith, within, long)))
      ∙ own_by_method texts x.declared m methods is_instance class method m_within)
      (own class (omega (arith, within, count)))
