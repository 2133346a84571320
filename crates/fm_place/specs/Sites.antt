-- Which items of a method come by an object that nothing else leads to yet, and of which of these objects no one outside of the method hears
-- (after Guyer, McKinley and Frampton, "Free-Me: A Static Analysis for Automatic Individual Object Reclamation", PLDI 2006).
use Rattle.std.specs.Prelude.{ℕ, zero, suc, ◌+◌, ◌-◌, ◌==◌, ◌&&◌, ◌||◌, not, Bool, true, false, List, [], ◌∷◌, length, filter, take, Option, Some, None, is_some, nat_lt, option_and_then, if◌then◌else◌}
use Rattle.std.specs.List.{flat_map, list_any, range_with_len, slice_index_or}
use Rattle.fm_base.specs.declared.limits.TheConstants.{MAX_LOCAL_WORDS}
use Rattle.fm_base.specs.declared.kinds.Kind.{Kind}
use Rattle.fm_code.specs.Edges.{insn_of}
use Rattle.fm_code.specs.declared.code_array.Code.{Code}
use Rattle.fm_code.specs.declared.instructions.Insn.{Insn}
use Rattle.fm_code.specs.declared.instructions.Insn.TheVariants as insn
use Rattle.fm_conn.specs.Facts.{Facts}
use Rattle.fm_conn.specs.Nodes.{depth_at, Global, Local, Node, Return, Slot, TypedMethod, word_at}
use Rattle.fm_conn.specs.Pairs.{call_of, depth_below, use_at}
use Rattle.fm_conn.specs.Rows.{is_reference_kind, method_in}
use Rattle.fm_conn.specs.Summaries.{same_number}
use Rattle.fm_conn.specs.declared.ends.End2.TheVariants as end
use Rattle.fm_types.specs.CallRows.{is_constructor}
use Rattle.fm_types.specs.Named.{result_of}
use Rattle.fm_types.specs.States.{is_reference}
use Rattle.fm_types.specs.Typed.{entry_slots, state_at}
use Rattle.fm_types.specs.declared.slots.Slot as slots
use Rattle.fm_types.specs.declared.slots.Slot.TheVariants as slot
use Rattle.fm_world.specs.Programs.{Outline, targets}
use Rattle.fm_world.specs.declared.calls.Call.{Call}
use Rattle.fm_world.specs.declared.uses.Use.{Use}
use Rattle.fm_place.specs.declared.limits.TheConstants.{MAX_HOLDING_STACK_WORDS}
use Rattle.fm_place.specs.declared.found_sites.Site.{Site}

-- ---- parameters

-- the locals of a method's parameters that are references
abbrev pub reference_parameters : Outline → ℕ → List ℕ
reference_parameters o method =
    let given = entry_slots o method in
    filter (λ k. is_reference (slice_index_or given k slot.Top)) (range_with_len 0 (length given))

-- ---- three kinds of sites

-- an array is made; a constructor of a new object is called; a method is called whose result is new
-- to its caller
pub data SiteKind : Type 0 where
  MakesArray : SiteKind
  Constructs : SiteKind
  ReceivesNew : SiteKind

-- newarray, anewarray and multianewarray (JVMS 6.5)
abbrev pub makes_array : Insn → Bool
makes_array (insn.NewArray e) = true
makes_array (insn.NewRefs index) = true
makes_array (insn.MultiArray index dimensions) = true
makes_array i = false

-- the item of the `new` whose object this is, before its constructor has returned
abbrev pub new_item : slots.Slot → Option ℕ
new_item (slot.Uninit item) = Some item
new_item s = None

-- the item of the `new` whose object is in this word of the stack
abbrev pub new_item_at : TypedMethod → ℕ → ℕ → Option ℕ
new_item_at x j depth = option_and_then new_item (word_at x j depth)

-- whether the word at this depth and the one below it hold the object of the same `new`; the lowest word has none below it
abbrev pub is_doubled : TypedMethod → ℕ → ℕ → Bool
is_doubled x j zero = false
is_doubled x j (suc below) = same_number (new_item_at x j (suc below)) (new_item_at x j below)

-- what a use names is a constructor
abbrev pub names_constructor : Outline → Use → Bool
names_constructor o u = of_method (method_in u) where
  of_method : Option ℕ → Bool
  of_method None = false
  of_method (Some method) = is_constructor o method

-- a constructor is called, and the caller keeps the receiver in the word below it
abbrev pub constructs : TypedMethod → ℕ → Insn → Bool
constructs x j (insn.Special index) =
    names_constructor x.program.outline (use_at x (insn.Special index)) && is_doubled x j (depth_below x j (insn.Special index))
constructs x j i = false

-- whether the method's result may be, or lead to or from, what a parameter or a static field leads to
abbrev pub may_give_old : Outline → Facts → ℕ → Bool
may_give_old o facts method =
    facts.linked method end.Return end.Global || list_any (λ k. facts.linked method end.Return (end.Parameter k)) (reference_parameters o method)

-- the method gives a reference
abbrev pub has_reference_result : Outline → ℕ → Bool
has_reference_result o method = of_kind (result_of o method) where
  of_kind : Option Kind → Bool
  of_kind None = false
  of_kind (Some k) = is_reference_kind k

-- a call that gives a reference, may lead to some method, and gives what is new whichever it leads to
abbrev pub receives_new : Facts → TypedMethod → Option Call → Bool
receives_new facts x None = false
receives_new facts x (Some called) =
    has_reference_result x.program.outline called.method.0 && nat_lt 0 (length (targets x.program called))
    && not (list_any (may_give_old x.program.outline facts) (targets x.program called))

-- what kind of a site an item with this instruction is, if it is one
abbrev pub kind_of_site : Facts → TypedMethod → ℕ → Insn → Option SiteKind
kind_of_site facts x j i =
    if makes_array i then Some MakesArray else
    if constructs x j i then Some Constructs else
    if receives_new facts x (call_of x i) then Some ReceivesNew else
    None

-- the same of an item, which isn't a site where it can't be reached
abbrev pub site_kind : Facts → TypedMethod → ℕ → Option SiteKind
site_kind facts x j =
    if is_some (state_at x.states j) then option_and_then (kind_of_site facts x j) (insn_of x.code j) else None

-- the object of a site is on top of the stack at the next item
abbrev pub site_node : TypedMethod → ℕ → Node
site_node x j = Slot (j + 1) (depth_at x (j + 1) - 1)

-- the class of the object of a site
abbrev pub site_class : Facts → TypedMethod → ℕ → ℕ
site_class facts x j = facts.class x.number (site_node x j)

-- ---- captured

-- no one outside of the method reaches what the class has: neither Global, nor the result, nor a parameter is in it
abbrev pub is_captured : Facts → TypedMethod → ℕ → Bool
is_captured facts x class =
    not (facts.class x.number Global == class) && not (facts.class x.number Return == class)
    && not (list_any (λ k. facts.class x.number (Local k) == class) (reference_parameters x.program.outline x.number))

-- a site whose class is captured
abbrev pub is_captured_site : Facts → TypedMethod → ℕ → Bool
is_captured_site facts x j = is_some (site_kind facts x j) && is_captured facts x (site_class facts x j)

-- ---- held

-- the captured sites of a method, in the order of its items
abbrev pub captured_sites : Facts → TypedMethod → List ℕ
captured_sites facts x = filter (is_captured_site facts x) (range_with_len 0 (length x.code.items))

-- the first captured sites, as many as there are locals left for; none where the stack has no room for what is inserted
abbrev pub held_sites : Facts → TypedMethod → List ℕ
held_sites facts x =
    if nat_lt MAX_HOLDING_STACK_WORDS x.code.max_stack then [] else take (MAX_LOCAL_WORDS - x.code.max_locals) (captured_sites facts x)

-- ---- all sites

-- how many sites are held at most
abbrev pub holder_room : Code → ℕ
holder_room code = if nat_lt MAX_HOLDING_STACK_WORDS code.max_stack then 0 else MAX_LOCAL_WORDS - code.max_locals

-- the number of the holder of an item before which there are `captured` captured sites
abbrev pub holder_after : Facts → TypedMethod → (captured j : ℕ) → Option ℕ
holder_after facts x captured j =
    if is_captured facts x (site_class facts x j) && nat_lt captured (holder_room x.code) then Some captured else None

-- the site before which there are `captured` captured ones
abbrev pub site_after : Facts → TypedMethod → (captured j : ℕ) → Site
site_after facts x captured j = record {
  item = j;
  class = site_class facts x j;
  captured = is_captured facts x (site_class facts x j);
  holder = holder_after facts x captured j;
}

-- how many captured sites there are before an item
abbrev pub captured_before : Facts → TypedMethod → ℕ → ℕ
captured_before facts x j = length (filter (is_captured_site facts x) (range_with_len 0 j))

-- the item, if it is a site
abbrev pub site_at : Facts → TypedMethod → ℕ → List Site
site_at facts x j = if is_some (site_kind facts x j) then site_after facts x (captured_before facts x j) j ∷ [] else []

-- the sites of a method in the order of its items
unfoldable pub sites_of : Facts → TypedMethod → List Site
sites_of facts x = flat_map (site_at facts x) (range_with_len 0 (length x.code.items))
