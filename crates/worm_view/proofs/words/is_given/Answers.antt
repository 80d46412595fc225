-- The text of a flag says whether it was given.
use Rattle.std.proofs.Common.{◌≡◌, ◌≢◌, Bool, true, false, Option, Some, None, ap, codes, refl, sym, unwrap_or, ◌∙◌}
use Rattle.std.specs.Option.{option_map_or}
use Rattle.std.specs.Str.{bytes_eq}
use Rattle.std.specs.Str.Parse.{ParsesBool}
use Rattle.std.specs.declared.str.ParseBoolError.{ParseBoolError}
use Rattle.std.proofs.lemmas.Slice.Eq.{bytes_eq-Decides}
use Rattle.clap.specs.Matches.{ReadsOne, found_of}
use Rattle.clap.specs.Walk.{Text, one_of, rows_of}
use Rattle.clap.proofs.WalkLemmas.{one_text-rows}
use Rattle.worm_view.proofs.words.is_given.Goals as goal

abbrev Reads : Text → Option Bool → Type 0
Reads t read = ReadsOne {T = Bool} {E = ParseBoolError} ParsesBool t read

unequal : (a b : Text) → a ≢ b → (e : Bool) → bytes_eq a b ≡ e → false ≡ e
unequal a b ne true is = absurd (ne ((bytes_eq-Decides a b).0 is))
unequal a b ne false is = refl

-- a text is read as `true` where it says that, and else as `false`, or as nothing
text_read : (t : Text) (read : Option Bool) → Reads t read → unwrap_or read false ≡ bytes_eq t (codes "true")
text_read t (Some true) h = sym ((bytes_eq-Decides t (codes "true")).1 h)
text_read t (Some false) h = sym (ap (λ (s : Text). bytes_eq s (codes "true")) h)
text_read t None h = unequal t (codes "true") h.1.0 (bytes_eq t (codes "true")) refl

flag_read : (text : Option Text) (read : Option Bool) → (text ≡ None → read ≡ None)
    → ((t : Text) → text ≡ Some t → Reads t read)
    → unwrap_or read false ≡ option_map_or (λ t. bytes_eq t (codes "true")) text false
flag_read None read none reads = ap (λ (r : Option Bool). unwrap_or r false) (none refl)
flag_read (Some t) read none reads = text_read t read (reads t refl)

pub returns : goal.returns
returns c =
    let m = found_of c.args.matches.now in
    let name = c.args.name.now in
    c.unwrap_or.ensures ∙ flag_read (one_of name (rows_of m)) c.get_one.result
    (λ none. c.get_one.ensures.none (one_text-rows m name ∙ none))
    (λ t is. c.get_one.ensures.value t (one_text-rows m name ∙ is))
