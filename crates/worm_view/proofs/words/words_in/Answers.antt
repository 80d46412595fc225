-- The network is there, and the two flags ask for a form.
use Rattle.std.proofs.Common.{◌∙◌, ap, ap₂, codes, refl, sym}
use Rattle.std.specs.Prelude.{option_map}
use Rattle.clap.specs.Matches.{found_of}
use Rattle.clap.proofs.CallerLemmas.{some_of_text}
use Rattle.clap.proofs.WalkLemmas.{first_value-rows}
use Rattle.worm_view.specs.Commands.{form_of}
use Rattle.worm_view.proofs.words.words_in.Goals as goal

pub unwrap-requires : goal.unwrap-requires
unwrap-requires c =
    let shown = c.get_str.ensures ∙ first_value-rows (found_of c.args.matches.now) (codes "NETWORK") in
    some_of_text _ c.get_str.result _ shown c.requires

pub returns-in-Some : goal.returns-in-Some
returns-in-Some c =
    let m = found_of c.args.matches.now in
    record {
      said = record {
        network = sym (c.get_str.ensures ∙ first_value-rows m (codes "NETWORK"))
            ∙ ap (option_map (λ s. s.now)) c.unwrap.ensures;
        form = sym (c.in-Some.ensures ∙ ap₂ form_of c.is_given.ensures c.is_given-2.ensures);
      };
      both = tt;
    }

pub returns-in-None : goal.returns-in-None
returns-in-None c = record {
  said = tt;
  both = (refl, sym (c.in-None.ensures ∙ ap₂ form_of c.is_given.ensures c.is_given-2.ensures));
}
