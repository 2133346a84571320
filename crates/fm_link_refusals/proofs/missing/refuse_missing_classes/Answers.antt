use Rattle.std.proofs.Common.{◌∙◌, ap, map}
use Rattle.fm_link_names.specs.inner.Numbering.{lent}
use Rattle.fm_world.specs.Linking.{refused_missing_classes}
use Rattle.fm_world.specs.Programs.{classes_of}
use Rattle.fm_link_refusals.specs.inner.GivenClasses.{given_in}
use Rattle.fm_link_refusals.specs.inner.Naming.{is_descriptor_met, is_name_met}
use Rattle.fm_link_refusals.proofs.missing.refuse_missing_classes.Goals as goal

pub returns : goal.returns
unfolding refused_missing_classes
returns c =
    let classes = classes_of (given_in c.args.files.now) in
    c.refuse_missing_names.ensures classes (record {
      numbers = c.requires.classes;
      names =
          c.as_slice-3.ensures.value
          ∙ c.in_ok-names_met.ensures classes c.requires.classes
          ∙ ap (λ ts. map (is_name_met classes) (lent ts)) c.as_slice.ensures.keys;
      descriptors =
          c.as_slice-4.ensures.value
          ∙ c.in_ok-descriptors_met.ensures classes c.requires.classes
          ∙ ap (λ ts. map (is_descriptor_met classes) (lent ts)) c.as_slice-2.ensures.keys;
    })
