-- What is known of one method after the other makes the facts of the whole program, by which the insertions of each are safe.
use Rattle.std.proofs.Common.{◌≡◌, ◌↔◌, ◌≤◌, ℕ, ◌∙◌, Bool, true, false, List, [], length, Option, Some, None, IfSome, refl, sym, ap, subst}
use Rattle.std.specs.Option.{option_map}
use Rattle.std.proofs.lemmas.Option.{none-some, same_Some}
use Rattle.fm_base.proofs.OptionFacts.{IsSomeAnd-at_some}
use Rattle.fm_check.specs.Checking.{IsLeastTyping}
use Rattle.fm_code.specs.Live.{Live}
use Rattle.fm_code.specs.declared.code_array.Code.{Code}
use Rattle.fm_code.specs.declared.code_array.Item.{Item}
use Rattle.fm_conn.proofs.LinkLemmas.{classes_are_by_links}
use Rattle.fm_conn.specs.Classes.{AreClassesOf, class_of}
use Rattle.fm_conn.specs.Facts.{AreFacts, Facts}
use Rattle.fm_conn.specs.Links.{typed_method, Typings}
use Rattle.fm_conn.specs.Nodes.{Node}
use Rattle.fm_conn.specs.Shapes.{method_with}
use Rattle.fm_conn.specs.Summaries.{is_linked, linked_by}
use Rattle.fm_conn.specs.declared.class_numbers.Classes.{Classes}
use Rattle.fm_conn.specs.declared.summaries.Summaries.{Summaries}
use Rattle.fm_flow.specs.LiveRows.{is_live, IsLiveRowsOf}
use Rattle.fm_flow.specs.declared.live_rows.LiveRows.{LiveRows}
use Rattle.fm_place.specs.Insertions.{Insertions}
use Rattle.fm_place.specs.PlansBy.{IsToldBy}
use Rattle.fm_place.specs.Safe.{AreSafe, HoldsNoChain, IsSafeMethod}
use Rattle.fm_place_weave.specs.declared.planned.Planned.{Planned}
use Rattle.fm_rewrite.specs.Plans.{LinkAlike}
use Rattle.fm_summ.specs.Exact.{AreExact}
use Rattle.fm_summ_shapes.proofs.LeastLemmas.{least_link_alike}
use Rattle.fm_summ_shapes.specs.Analysed.{AreLeastTypings}
use Rattle.fm_types.specs.States.{TypeState}
use Rattle.fm_types.specs.Typed.{IsTypingOf}
use Rattle.fm_world.specs.Programs.{code_at, Program}
use Rattle.fm_audit.specs.ReadBack.{read_by}
use Rattle.fm_audit.specs.Reading.{read}
use Rattle.fm_audit.specs.SafeParts.{FailsPart}
use Rattle.fm_audit.specs.SafePlans.{IsListedIn, IsSafelyJudged}
use Rattle.fm_audit.specs.declared.parts.Part.{Part}

module _ (p : Program) (s : Summaries) (free : ℕ → ℕ) (new : ℕ → List Item) (failing : ℕ → Part) (done : ℕ → Planned)
    (known : (method : ℕ) (code : Code) → code_at p method ≡ Some code
    → IsSafelyJudged p s method code (free method) (new method) (failing method) (done method)) where
  -- ---- by the number of a method: what is known of it, and nothing of one without code

  abbrev states_by : (method : ℕ) (o : Option Code) → code_at p method ≡ o → List (Option TypeState)
  states_by method None is = []
  states_by method (Some code) is = (known method code is).plan.states

  abbrev live_by : (method : ℕ) (o : Option Code) → code_at p method ≡ o → ℕ → ℕ → Bool
  live_by method None is local item = false
  live_by method (Some code) is local item = is_live (known method code is).plan.live local item

  abbrev class_by : (method : ℕ) (o : Option Code) → code_at p method ≡ o → Node → ℕ
  class_by method None is node = 0
  class_by method (Some code) is node = class_of (known method code is).plan.classes node

  abbrev pub insertions_in : (method : ℕ) (o : Option Code) → code_at p method ≡ o → Option Insertions
  insertions_in method None is = None
  insertions_in method (Some code) is = (known method code is).plan.insertions

  -- the facts, and what is inserted
  abbrev pub facts : Facts
  facts = record {
    typing = λ method. states_by method (code_at p method) refl;
    linked = is_linked s;
    live = λ method local item. live_by method (code_at p method) refl local item;
    class = λ method node. class_by method (code_at p method) refl node;
  }

  abbrev pub plans : ℕ → Option Insertions
  plans method = insertions_in method (code_at p method) refl

  -- ---- a method that has code

  record IsKnownAs (method : ℕ) (code : Code) (states : List (Option TypeState)) (live : ℕ → ℕ → Bool) (class : Node → ℕ) (insertions : Option Insertions) : Type 0 where
    pub rows : LiveRows
    pub classes : Classes
    pub least : IsLeastTyping p method states
    pub rows_are : IsLiveRowsOf code rows
    pub live_is : (local item : ℕ) → live local item ≡ is_live rows local item
    pub classes_are : AreClassesOf (linked_by s) (method_with p method code states) classes
    pub class_is : (node : Node) → class node ≡ class_of classes node
    pub listed : IsListedIn code insertions (done method)
    pub safe : (told : Facts) → IsToldBy told method classes rows → LinkAlike told s → IfSome insertions (AreSafe told (method_with p method code states))
    pub plain : IfSome insertions HoldsNoChain
    pub whole : (told : Facts) → IsToldBy told method classes rows → LinkAlike told s → (ins : Insertions) → AreSafe told (method_with p method code states) ins
        → HoldsNoChain ins → read (free method) code.max_locals code.items (new method) ≡ Some (read_by code ins) → IsListedIn code (Some ins) (done method)
    pub judged : (told : Facts) → IsToldBy told method classes rows → LinkAlike told s → length (new method) ≤ 65535
        → FailsPart told (method_with p method code states) (free method) code (new method) (failing method)

  known_as : (method : ℕ) (o : Option Code) (is : code_at p method ≡ o) (code : Code) → o ≡ Some code
      → IsKnownAs method code (states_by method o is) (live_by method o is) (class_by method o is) (insertions_in method o is)
  known_as method None is code found = absurd (none-some code found)
  known_as method (Some own) is code found =
      let by = (known method own is).plan in
      subst (λ c. IsKnownAs method c by.states (λ local item. is_live by.live local item) (λ node. class_of by.classes node) by.insertions) (same_Some _ _ found)
      (record {
        rows = by.live;
        classes = by.classes;
        least = by.least;
        rows_are = by.live_are;
        live_is = λ local item. refl;
        classes_are = by.classes_are;
        class_is = λ node. refl;
        listed = by.listed;
        safe = by.safe;
        plain = by.plain;
        whole = by.whole;
        judged = (known method own is).judged;
      })

  at_code : (method : ℕ) (code : Code) → code_at p method ≡ Some code
      → IsKnownAs method code (facts.typing method) (facts.live method) (facts.class method) (plans method)
  at_code method code is = known_as method (code_at p method) refl code is

  pub least_typings : AreLeastTypings p facts.typing
  least_typings method code is = (at_code method code is).least

  -- what is planned for it is what is inserted
  pub are_listed : (method : ℕ) (code : Code) → code_at p method ≡ Some code → IsListedIn code (plans method) (done method)
  are_listed method code is = (at_code method code is).listed

  -- safe insertions as which its new items are read are planned for it
  pub are_whole : (method : ℕ) (code : Code) (ins : Insertions) → code_at p method ≡ Some code
      → AreSafe facts (typed_method p facts.typing method code) ins → HoldsNoChain ins
      → read (free method) code.max_locals code.items (new method) ≡ Some (read_by code ins) → IsListedIn code (Some ins) (done method)
  are_whole method code ins is safe plain read_is =
      let own = at_code method code is in own.whole facts (record { class = own.class_is; lives = own.live_is }) (λ m a b. refl) ins safe plain read_is

  -- the part that it fails is the least
  pub are_judged : (method : ℕ) (code : Code) → code_at p method ≡ Some code → length (new method) ≤ 65535
      → FailsPart facts (typed_method p facts.typing method code) (free method) code (new method) (failing method)
  are_judged method code is few =
      let own = at_code method code is in own.judged facts (record { class = own.class_is; lives = own.live_is }) (λ m a b. refl) few

  -- ---- the whole program

  module _ (typings : Typings) (least : AreLeastTypings p typings) (exact : AreExact p typings s) where
    linked_so : AreExact p facts.typing s
    linked_so = least_link_alike p typings facts.typing least least_typings s exact

    pub are_facts : AreFacts p facts
    are_facts = record {
      linked = λ method a b first second. (
        λ told. linked_so.links.no_more method a b told,
        λ linked. linked_so.links.all method a b first second linked,
      );
      methods = λ method code is.
          let own = at_code method code is in
          record {
            typing = IsSomeAnd-at_some (code_at p method) (λ c. IsTypingOf p method c (facts.typing method)) code is own.least.typing;
            live = λ local item. subst (λ b. (b ≡ true) ↔ Live code local item) (sym (own.live_is local item)) (own.rows_are.each local item);
            class = λ a b.
                let by = classes_are_by_links p facts.typing s linked_so.links method code own.classes own.classes_are a b in
                (λ same. by.0 (sym (own.class_is a) ∙ same ∙ own.class_is b), λ joined. own.class_is a ∙ by.1 joined ∙ sym (own.class_is b));
          };
    }

  -- what is inserted is safe
  safe_method : (method : ℕ) (plan : Insertions) (o : Option Code) (is : code_at p method ≡ o) → plans method ≡ Some plan
      → insertions_in method o is ≡ Some plan → IsSafeMethod p facts method plan
  safe_method method plan None is found none = absurd (none-some plan none)
  safe_method method plan (Some code) is found some =
      let own = at_code method code is in
      record {
        x = typed_method p facts.typing method code;
        is = ap (option_map (typed_method p facts.typing method)) is;
        safe =
            subst (λ o. IfSome o (AreSafe facts (typed_method p facts.typing method code))) found
            (own.safe facts (record { class = own.class_is; lives = own.live_is }) (λ m a b. refl));
        plain = subst (λ o. IfSome o HoldsNoChain) found own.plain;
      }

  pub safe_methods : (method : ℕ) (plan : Insertions) → plans method ≡ Some plan → IsSafeMethod p facts method plan
  safe_methods method plan found = safe_method method plan (code_at p method) refl found found
