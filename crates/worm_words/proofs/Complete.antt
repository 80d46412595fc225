-- After a parse that succeeded each file is named, and each number is there.
use Rattle.std.proofs.Common.{◌≡◌, ◌∙◌, ◌<◌, ◌≤◌, ◌&&◌, ℕ, Bool, true, false, zero, suc, List, [], ◌∷◌, length, map}
use Rattle.std.proofs.Common.{not, Option, Some, None, is_some, ap, ap₂, arith, codes, inl, inr, refl, subst, sym}
use Rattle.std.proofs.Common.{true≢false}
use Rattle.std.specs.Borrow.{Bor}
use Rattle.std.specs.List.{list_all, slice_index_or}
use Rattle.std.specs.Prelude.{IsSomeAnd, find, option_map}
use Rattle.std.specs.Str.{bytes_eq}
use Rattle.std.proofs.lemmas.Slice.Eq.{bytes_eq-Decides}
use Rattle.clap.specs.Built.{IsAuto, IsParsedFrom, IsPlain, IsPlainArg}
use Rattle.clap.specs.Facts.{Entry, HasIn, WantsDefault, args_of, least_values, unwrap_or_range}
use Rattle.clap.specs.Matches.{first_value, found_of, matched_of, one_text}
use Rattle.clap.specs.Simple.{App, app_of}
use Rattle.clap.specs.Texts.{items_of}
use Rattle.clap.specs.Values.{Accepts, reading_of}
use Rattle.clap.specs.Walk.{Rule, Text, first_of, is_empty, is_free_arg, is_simple_arg, one_of, rows_of, rule_of}
use Rattle.clap.specs.Walk.{texts}
use Rattle.clap.specs.declared.builder.action.ArgAction.TheVariants.{Set}
use Rattle.clap.specs.declared.builder.arg.Arg.{Arg}
use Rattle.clap.specs.declared.builder.command.Command.{Command}
use Rattle.clap.specs.declared.builder.command.Command.TheViews.{out-Command}
use Rattle.clap.specs.declared.builder.value_parser.Reading.TheVariants.{AsWritten}
use Rattle.clap.specs.declared.builder.value_parser.ValueParser.{ValueParser}
use Rattle.clap.specs.declared.builder.value_parser.ValueParser.TheVariants.{Unsigned}
use Rattle.clap.specs.declared.parser.matches.ArgMatches.{ArgMatches}
use Rattle.clap.proofs.CallerLemmas.{default_present, present_has_entry, required_has_value, required_present}
use Rattle.clap.proofs.SimpleLemmas.{HasPlainFields, is_false, is_nil, plain_fields}
use Rattle.clap.proofs.TakesLemmas.{each_rule}
use Rattle.clap.proofs.WalkLemmas.{both, first_value-rows, one_text-rows}
use Rattle.worm_words.specs.Commands.{IsComplete, arguments, command, drain_option, file, turns_option}
use Rattle.worm_words.specs.Commands.{workers_option}
use Rattle.worm_words.proofs.OptionsGiven.{TakesValues, option_given}

-- Lists

place_in_map : (xs : List Arg) (k : ℕ) (d : Arg) (e : Rule) → k < length xs
    → rule_of (slice_index_or xs k d) ≡ slice_index_or (map rule_of xs) k e
place_in_map [] k d e lt = absurd (omega arith)
place_in_map (x ∷ xs) zero d e lt = refl
place_in_map (x ∷ xs) (suc k) d e lt = place_in_map xs k d e (omega arith)

same_length : (xs : List Arg) → length (map rule_of xs) ≡ length xs
same_length [] = refl
same_length (x ∷ xs) = ap suc (same_length xs)

first_arg : (xs : List Arg) (r : Rule) (rs : List Rule) → map rule_of xs ≡ r ∷ rs → Arg
first_arg [] r rs is = absurd (cc)
first_arg (x ∷ xs) r rs is = x

-- of these rules the one at a place alone has the id
abbrev is_only : Text → ℕ → List Rule → Bool
is_only id k [] = true
is_only id zero (r ∷ rs) = list_all (λ x. not (bytes_eq x.id id)) rs
is_only id (suc k) (r ∷ rs) = not (bytes_eq r.id id) && is_only id k rs

none_has : (id : Text) (rs : List Rule) (j : ℕ) (e : Rule) → list_all (λ x. not (bytes_eq x.id id)) rs ≡ true
    → j < length rs → bytes_eq (slice_index_or rs j e).id id ≡ true → ⊥
none_has id [] j e none lt has = absurd (omega arith)
none_has id (r ∷ rs) zero e none lt has = true≢false (sym has ∙ is_false _ (both _ _ none).0)
none_has id (r ∷ rs) (suc j) e none lt has = none_has id rs j e (both _ _ none).1 (omega arith) has

only_place : (id : Text) (rs : List Rule) (k j : ℕ) (e : Rule) → is_only id k rs ≡ true → j < length rs
    → bytes_eq (slice_index_or rs j e).id id ≡ true → j ≡ k
only_place id [] k j e only lt has = absurd (omega arith)
only_place id (r ∷ rs) zero zero e only lt has = refl
only_place id (r ∷ rs) zero (suc j) e only lt has = absurd (none_has id rs j e only (omega arith) has)
only_place id (r ∷ rs) (suc k) zero e only lt has = absurd (true≢false (sym has ∙ is_false _ (both _ _ only).0))
only_place id (r ∷ rs) (suc k) (suc j) e only lt has =
    ap suc (only_place id rs k j e (both _ _ only).1 (omega arith) has)

has_entry : (xs : List Entry) (id : Text) (i : ℕ) → i < length xs
    → ((d : Entry) → bytes_eq (slice_index_or xs i d).0.now id ≡ true)
    → is_some (option_map (λ e. e.1) (find (λ e. bytes_eq e.0.now id) xs)) ≡ true
has_entry [] id i lt has = absurd (omega arith)
has_entry (x ∷ xs) id zero lt has = rw (has x) refl
has_entry (x ∷ xs) id (suc i) lt has = by_first (bytes_eq x.0.now id) refl (has_entry xs id i (omega arith) has)
  where
    by_first : (b : Bool) → bytes_eq x.0.now id ≡ b
        → is_some (option_map (λ e. e.1) (find (λ e. bytes_eq e.0.now id) xs)) ≡ true
        → is_some (option_map (λ e. e.1) (find (λ e. bytes_eq e.0.now id) (x ∷ xs))) ≡ true
    by_first true is later = rw is refl
    by_first false is later = rw is later

some_text : (xs : List (Bor Text)) (t : Text) (rest : List Text) → texts xs ≡ t ∷ rest → 0 < length xs
some_text [] t rest is = absurd (cc)
some_text (x ∷ xs) t rest is = omega arith

differs : (a b : Text) → bytes_eq a b ≡ false → a ≡ b → ⊥
differs a b unequal is = true≢false (sym ((bytes_eq-Decides a b).1 is) ∙ unequal)

-- Arguments

none_of : {X : Type 0} (o : Option X) → not (is_some o) ≡ true → o ≡ None
none_of None e = refl
none_of (Some x) e = absurd (true≢false (sym e))

plain_arg : (a : Arg) → is_simple_arg a ≡ true → is_free_arg a ≡ true → IsPlainArg a
plain_arg a simple free =
    let s = both _ _ simple in
    let t = both _ _ s.1 in
    let u = both _ _ t.1 in
    let f = both _ _ free in
    let g = both _ _ f.1 in
    (is_false _ f.0, is_nil _ g.0, is_nil _ s.0, is_nil _ u.0)

no_delimiter : (a : Arg) → is_simple_arg a ≡ true → a.val_delim ≡ None
no_delimiter a simple =
    let s = both (is_empty a.overrides.items) _ simple in
    let t = both (is_empty a.default_vals_ifs.items) _ s.1 in
    let u = both (is_empty a.groups.items) _ t.1 in
    none_of _ (both (not (is_some a.val_delim)) _ u.1).0

no_condition : (a : Arg) → is_simple_arg a ≡ true → a.default_vals_ifs.items ≡ []
no_condition a simple =
    let s = both _ _ simple in
    is_nil _ (both _ _ s.1).0

-- the rule takes one value as it stands, and its id is no other argument's
abbrev is_own : ℕ → Rule → Bool
is_own k r = is_only r.id k arguments && (not (is_empty r.id)
    && (not (bytes_eq r.id (codes "help")) && not (bytes_eq r.id (codes "version"))))

module _ (old : Command) (m : ArgMatches) (p : IsParsedFrom old m) (is : app_of old ≡ command) where
  rules_are : map rule_of (args_of old) ≡ arguments
  unfolding command
  rules_are = ap (λ (a : App). a.top.rules) is

  fields : HasPlainFields old
  unfolding command
  fields = plain_fields old (ap (λ (a : App). a.top.is_plain) is)

  keeps_needs : (out-Command old).subcommand_negates_reqs ≡ false
  unfolding command
  keeps_needs = ap (λ (a : App). a.top.subcommand_negates_reqs) is

  all_simple : list_all (λ a. a.is_simple) (map rule_of (args_of old)) ≡ true
  all_simple = ap (list_all (λ (a : Rule). a.is_simple)) rules_are

  all_free : list_all (λ a. a.is_free) (map rule_of (args_of old)) ≡ true
  all_free = ap (list_all (λ (a : Rule). a.is_free)) rules_are

  plain : IsPlain old
  plain = (
    λ k d lt. plain_arg (slice_index_or (args_of old) k d)
        (each_rule (λ a. a.is_simple) (args_of old) all_simple k d lt)
        (each_rule (λ a. a.is_free) (args_of old) all_free k d lt),
    fields.groups,
  )

  five : length (args_of old) ≡ 5
  five = sym (same_length (args_of old)) ∙ ap length rules_are

  any : Arg
  any = first_arg (args_of old) _ _ rules_are

  abbrev arg_at : ℕ → Arg
  arg_at k = slice_index_or (args_of old) k any

  rule_at : (k : ℕ) (d : Arg) (e : Rule) → k < 5
      → rule_of (slice_index_or (args_of old) k d) ≡ slice_index_or arguments k e
  rule_at k d e lt =
      place_in_map (args_of old) k d e (omega (arith, five)) ∙ ap (λ rs. slice_index_or rs k e) rules_are

  -- the argument at a place follows this rule, and no other has its id
  record IsAt (k : ℕ) (r : Rule) : Type 0 where
    rule : rule_of (arg_at k) ≡ r
    lt : k < length (args_of old)
    simple : is_simple_arg (arg_at k) ≡ true
    unique : (j : ℕ) (e : Arg) → j < length (args_of old)
        → bytes_eq (slice_index_or (args_of old) j e).id.now (arg_at k).id.now ≡ true → j ≡ k
    named : (arg_at k).id.now ≡ [] → ⊥
    own : IsAuto (arg_at k) → ⊥

  is_at : (k : ℕ) (r : Rule) → k < 5 → slice_index_or arguments k r ≡ r → is_own k r ≡ true → IsAt k r
  is_at k r lt here own =
      let rule : rule_of (arg_at k) ≡ r = rule_at k any r lt ∙ here in
      let id : (arg_at k).id.now ≡ r.id = ap (λ (x : Rule). x.id) rule in
      let inside : k < length (args_of old) = omega (arith, five) in
      let o = both _ _ own in
      let q = both _ _ o.1 in
      let s = both _ _ q.1 in
      record {
        rule = rule;
        lt = inside;
        simple = each_rule (λ a. a.is_simple) (args_of old) all_simple k any inside;
        unique = λ j e low has.
            let below : j < 5 = omega (arith, five) in
            let there = ap (λ (x : Rule). x.id) (rule_at j e r below) in
            only_place r.id arguments k j r o.0 below (ap₂ bytes_eq (sym there) (sym id) ∙ has);
        named = λ empty. absurd (true≢false (sym (ap is_empty (sym id ∙ empty)) ∙ is_false _ q.0));
        own = λ auto. elim auto [
          | inl help ↦ differs r.id (codes "help") (is_false _ s.0) (sym id ∙ help)
          | inr version ↦ differs r.id (codes "version") (is_false _ s.1) (sym id ∙ version)
        ];
      }

  one_least : (k : ℕ) (r : Rule) → IsAt k r → r.range ≡ None → 1 ≤ least_values (arg_at k)
  one_least k r at single =
      let range : (arg_at k).num_vals ≡ None = ap (λ (x : Rule). x.range) at.rule ∙ single in
      subst (λ o. 1 ≤ (unwrap_or_range o).start_inclusive) (sym range) (omega arith)

  file_given : (k : ℕ) (name : Text) → IsAt k (file name) → is_some (first_of name (rows_of (found_of m))) ≡ true
  file_given k name at =
      let given = required_has_value old m p plain fields.globals keeps_needs k any at.lt
      (ap (λ (x : Rule). x.required) at.rule) (ap (λ (x : Rule). x.action) at.rule)
      (no_delimiter (arg_at k) at.simple) (one_least k (file name) at refl) at.unique at.named at.own in
      let id : (arg_at k).id.now ≡ name = ap (λ (x : Rule). x.id) at.rule in
      sym (ap is_some (first_value-rows (found_of m) name))
      ∙ sym (ap (λ (t : Text). is_some (first_value (found_of m) t)) id) ∙ given

  number_given : (k : ℕ) (r : Rule) (least most : ℕ) → IsAt k r → r.action ≡ Some Set → r.range ≡ None
      → r.parser ≡ Some (Unsigned least most) → is_some (matched_of (found_of m) (arg_at k).id.now) ≡ true
      → IsSomeAnd (one_of r.id (rows_of (found_of m))) (Accepts r.ignore_case (Unsigned least most))
  number_given k r least most at set single parsed some =
      let takes : TakesValues (arg_at k) (Unsigned least most) = record {
        action = ap (λ (x : Rule). x.action) at.rule ∙ set;
        delimiter = no_delimiter (arg_at k) at.simple;
        least = one_least k r at single;
        parsed = ap (λ (x : Rule). x.parser) at.rule ∙ parsed;
        written = refl;
      } in
      let given = option_given old m p plain fields.globals k any at.lt at.unique at.named at.own
      (Unsigned least most) takes some in
      let id : (arg_at k).id.now ≡ r.id = ap (λ (x : Rule). x.id) at.rule in
      let text : one_text (found_of m) (arg_at k).id.now ≡ one_of r.id (rows_of (found_of m)) =
      ap (one_text (found_of m)) id ∙ one_text-rows (found_of m) r.id in
      subst (λ o. IsSomeAnd o (Accepts r.ignore_case (Unsigned least most))) text given

  needed_entry : (k : ℕ) (r : Rule) → IsAt k r → r.required ≡ true
      → is_some (matched_of (found_of m) (arg_at k).id.now) ≡ true
  needed_entry k r at required =
      present_has_entry (found_of m) _ (required_present old m p plain fields.globals keeps_needs k any at.lt
      (ap (λ (x : Rule). x.required) at.rule ∙ required))

  default_entry : (k : ℕ) (r : Rule) (t : Text) → IsAt k r → r.defaults ≡ t ∷ []
      → is_some (matched_of (found_of m) (arg_at k).id.now) ≡ true
  default_entry k r t at default =
      let some : 0 < length (items_of (arg_at k).default_vals) =
      some_text (items_of (arg_at k).default_vals) t [] (ap (λ (x : Rule). x.defaults) at.rule ∙ default) in
      let wants : WantsDefault (arg_at k) = (no_condition (arg_at k) at.simple, some) in
      let has = default_present old m p fields.globals k any at.lt wants in
      has_entry (found_of m).entries.items (arg_at k).id.now has.0 has.1 has.2

  pub complete : IsComplete (rows_of (found_of m))
  complete =
      let network = is_at 0 (file (codes "NETWORK")) (omega arith) refl refl in
      let traffic = is_at 1 (file (codes "TRAFFIC")) (omega arith) refl refl in
      let turns = is_at 2 turns_option (omega arith) refl refl in
      let workers = is_at 3 workers_option (omega arith) refl refl in
      let drain = is_at 4 drain_option (omega arith) refl refl in
      let some_turns = needed_entry 2 turns_option turns refl in
      let some_workers = default_entry 3 workers_option (codes "1") workers refl in
      let some_drain = default_entry 4 drain_option (codes "0") drain refl in
      record {
        network = file_given 0 (codes "NETWORK") network;
        traffic = file_given 1 (codes "TRAFFIC") traffic;
        turns = number_given 2 turns_option 0 1000000 turns refl refl refl some_turns;
        workers = number_given 3 workers_option 1 16 workers refl refl refl some_workers;
        drain = number_given 4 drain_option 0 1000000 drain refl refl refl some_drain;
      }
