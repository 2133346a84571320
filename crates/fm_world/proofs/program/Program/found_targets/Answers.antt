use Rattle.std.proofs.Common.{Option, ◌≡◌, ◌∙◌, ap, subst, ℕ, List, ◌++◌, length, map, filter, false, get_or, option_to_list, IfOk, [], if◌then◌else◌, arith}
use Rattle.std.specs.List.{filter_map, range_with_len}
use Rattle.std.specs.Option.{option_map}
use Rattle.fm_base.specs.declared.ids.MethodId.{MethodId}
use Rattle.fm_world.specs.Chains.{is_among}
use Rattle.fm_world.specs.Lookups.{object_number, select}
use Rattle.fm_world.specs.Members.{methods_of}
use Rattle.fm_world.specs.Programs.{takes_arrays, takes_class}
use Rattle.fm_world.specs.inner.Marks.{marked, AreMarked}
use Rattle.fm_world.proofs.Marks.{AreMarked-more, AreMarked-step, length-marked, marked_are}
use Rattle.fm_world.proofs.program.Program.found_targets.Goals as goal

pub loop-class-preserved : goal.loop-class-preserved
loop-class-preserved c =
    let p = c.args.self.now in
    let found = option_map (λ (n : MethodId). n.0) c.selected_of.result in
    record {
      each = ap length c.mark.ensures ∙ length-marked c.loop-class.marks.items found ∙ c.loop-class.invariant.each;
      are = AreMarked-step (λ k. select p.outline.classes k c.args.m.0)
          (takes_class p c.args.named) c.loop-class.marks.items c.mark.new.marks.items c.loop-class.class found
          c.mark.ensures c.selected_of.ensures c.loop-class.invariant.are;
    }

pub returns : goal.returns
returns c =
    let p = c.args.self.now in
    let find : ℕ → Option ℕ = λ k. select p.outline.classes k c.args.m.0 in
    let receivers = filter (takes_class p c.args.named) (range_with_len 0 (length p.outline.classes)) in
    let arrays : List ℕ = if (takes_arrays p.outline.classes c.args.named) then option_to_list (object_number p.outline.classes) else [] in
    let found = option_map (λ (n : MethodId). n.0) c.selected_of_arrays.result in
    let all : c.loop-class.class ≡ length p.outline.classes =
    omega (arith, c.classes-class-end.ensures, c.loop-class-test.false, c.loop-class.auto.class-end) in
    let Upto : ℕ → Type 0 = λ n. AreMarked c.loop-class.marks.items (filter_map find (filter (takes_class p c.args.named) (range_with_len 0 n))) in
    let of_classes : AreMarked c.loop-class.marks.items (filter_map find receivers) = subst Upto all c.loop-class.invariant.are in
    let AndArrays : List ℕ → Type 0 = λ more. AreMarked (marked c.loop-class.marks.items found) (filter_map find receivers ++ more) in
    let of_all = subst AndArrays c.selected_of_arrays.ensures
    (AreMarked-more c.loop-class.marks.items (filter_map find receivers) found of_classes) in
    let slice_is : c.as_slice.result.now ≡ marked c.loop-class.marks.items found = c.as_slice.ensures.value ∙ c.mark-2.ensures in
    let each = length-marked c.loop-class.marks.items found ∙ c.loop-class.invariant.each in
    let same = marked_are find receivers arrays (marked c.loop-class.marks.items found) (length (methods_of p.outline.classes)) each of_all in
    let answer : filter (λ k. get_or c.as_slice.result.now k false) (range_with_len 0 (length c.as_slice.result.now))
    ≡ filter (λ k. is_among k (filter_map find (receivers ++ arrays))) (range_with_len 0 (length (methods_of p.outline.classes)))
    = ap (λ marks. filter (λ k. get_or marks k false) (range_with_len 0 (length marks))) slice_is ∙ same in
    let P : List ℕ → Type 0 = λ numbers. IfOk c.marked_methods.result (λ found. map (λ (m : MethodId). m.0) found.items ≡ numbers) in
    subst P answer c.marked_methods.ensures
