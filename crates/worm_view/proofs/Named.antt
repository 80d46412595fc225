-- After a parse that succeeded the network is named.
use Rattle.std.proofs.Common.{◌≡◌, ◌∙◌, ◌<◌, ◌≤◌, ℕ, zero, suc, true, false, List, [], ◌∷◌, length, map, None, is_some}
use Rattle.std.proofs.Common.{IsSome, ap, ap₂, arith, codes, inl, inr, refl, subst, sym, true≢false}
use Rattle.std.specs.List.{list_all, slice_index_or}
use Rattle.std.specs.Str.{bytes_eq}
use Rattle.std.proofs.lemmas.Slice.Eq.{bytes_eq-Decides}
use Rattle.clap.specs.Built.{IsParsedFrom, IsPlain}
use Rattle.clap.specs.Facts.{args_of, least_values, unwrap_or_range}
use Rattle.clap.specs.Faults.{has_free_rules}
use Rattle.clap.specs.Matches.{first_value, found_of}
use Rattle.clap.specs.Simple.{App, IsSimple, app_of, is_ready, is_ready_leaf}
use Rattle.clap.specs.Walk.{Rule, Text, first_of, is_empty, rows_of, rule_of}
use Rattle.clap.specs.declared.builder.arg.Arg.{Arg}
use Rattle.clap.specs.declared.builder.command.Command.{Command}
use Rattle.clap.specs.declared.builder.command.Command.TheViews.{out-Command}
use Rattle.clap.specs.declared.parser.matches.ArgMatches.{ArgMatches}
use Rattle.clap.proofs.CallerLemmas.{required_has_value}
use Rattle.clap.proofs.FaultLemmas.{free_args}
use Rattle.clap.proofs.SimpleLemmas.{all_simple, ready_simple, simple_groups}
use Rattle.clap.proofs.WalkLemmas.{first_value-rows}
use Rattle.worm_view.specs.Commands.{command, network_word, text_word, waits_word}

differs : (a b : Text) → bytes_eq a b ≡ false → a ≡ b → ⊥
differs a b unequal is = true≢false (sym ((bytes_eq-Decides a b).1 is) ∙ unequal)

-- three arguments, each by its rule
record AreThree (xs : List Arg) (r s t : Rule) : Type 0 where
  first : Arg
  second : Arg
  third : Arg
  list : xs ≡ first ∷ second ∷ third ∷ []
  first_rule : rule_of first ≡ r
  second_rule : rule_of second ≡ s
  third_rule : rule_of third ≡ t

are_three : (xs : List Arg) (r s t : Rule) → map rule_of xs ≡ r ∷ s ∷ t ∷ [] → AreThree xs r s t
are_three [] r s t is = absurd (cc)
are_three (x ∷ []) r s t is = absurd (cc)
are_three (x ∷ y ∷ []) r s t is = absurd (cc)
are_three (x ∷ y ∷ z ∷ []) r s t is = record {
  first = x;
  second = y;
  third = z;
  list = refl;
  first_rule = ap (λ (rs : List Rule). slice_index_or rs 0 r) is;
  second_rule = ap (λ (rs : List Rule). slice_index_or rs 1 s) is;
  third_rule = ap (λ (rs : List Rule). slice_index_or rs 2 t) is;
}
are_three (x ∷ y ∷ z ∷ w ∷ ws) r s t is = absurd (cc)

-- the id of the first is that of no other
first_alone : (x y z d : Arg) → bytes_eq y.id.now x.id.now ≡ false → bytes_eq z.id.now x.id.now ≡ false → (j : ℕ)
    (e : Arg) → j < length (x ∷ y ∷ z ∷ []) → bytes_eq (slice_index_or (x ∷ y ∷ z ∷ []) j e).id.now
    (slice_index_or (x ∷ y ∷ z ∷ []) 0 d).id.now ≡ true → j ≡ 0
first_alone x y z d second third zero e lt same = refl
first_alone x y z d second third (suc zero) e lt same = absurd (true≢false (sym same ∙ second))
first_alone x y z d second third (suc (suc zero)) e lt same = absurd (true≢false (sym same ∙ third))
first_alone x y z d second third (suc (suc (suc j))) e lt same = absurd (omega arith)

module _ (old : Command) (m : ArgMatches) (p : IsParsedFrom old m) (is : app_of old ≡ command) where
  args : AreThree (args_of old) network_word text_word waits_word
  unfolding command
  args = are_three (args_of old) network_word text_word waits_word (ap (λ (a : App). a.top.rules) is)

  simple : IsSimple old
  unfolding command
  simple = ready_simple old (ap (λ (a : App). is_ready a.top) is)
      (ap (λ (a : App). list_all is_ready_leaf a.subs) is)

  free_rules : has_free_rules (app_of old).top ≡ true
  unfolding command
  free_rules = ap (λ (a : App). has_free_rules a.top) is

  simple_rules : all_simple (app_of old).top.rules ≡ true
  unfolding command
  simple_rules = ap (λ (a : App). all_simple a.top.rules) is

  negates : (out-Command old).subcommand_negates_reqs ≡ false
  unfolding command
  negates = ap (λ (a : App). a.top.subcommand_negates_reqs) is

  -- neither argument excludes anything
  plain : IsPlain old
  plain = (
    λ k d lt.
        let free = free_args old simple free_rules k d lt in
        (free.exclusive, free.conflicts, free.overrides, simple_groups old simple_rules k d lt),
    simple.groups,
  )

  abbrev here : Arg
  here = slice_index_or (args_of old) 0 args.first

  rule : rule_of here ≡ network_word
  rule = ap (λ (xs : List Arg). rule_of (slice_index_or xs 0 args.first)) args.list ∙ args.first_rule

  some : 0 < length (args_of old)
  some = let long : length (args_of old) ≡ 3 = ap length args.list in omega arith

  unique : (j : ℕ) (e : Arg) → j < length (args_of old)
      → bytes_eq (slice_index_or (args_of old) j e).id.now here.id.now ≡ true → j ≡ 0
  unique =
      let first = ap (λ (r : Rule). r.id) args.first_rule in
      let second : bytes_eq args.second.id.now args.first.id.now ≡ false =
      ap₂ bytes_eq (ap (λ (r : Rule). r.id) args.second_rule) first in
      let third : bytes_eq args.third.id.now args.first.id.now ≡ false =
      ap₂ bytes_eq (ap (λ (r : Rule). r.id) args.third_rule) first in
      subst (λ (xs : List Arg). (j : ℕ) (e : Arg) → j < length xs
      → bytes_eq (slice_index_or xs j e).id.now (slice_index_or xs 0 args.first).id.now ≡ true → j ≡ 0)
      (sym args.list) (first_alone args.first args.second args.third args.first second third)

  pub named : IsSome (first_of (codes "NETWORK") (rows_of (found_of m)))
  named =
      let id : here.id.now ≡ codes "NETWORK" = ap (λ (r : Rule). r.id) rule in
      let range : here.num_vals ≡ None = ap (λ (r : Rule). r.range) rule in
      let one : 1 ≤ least_values here =
      subst (λ o. 1 ≤ (unwrap_or_range o).start_inclusive) (sym range) (omega arith) in
      let given = required_has_value old m p plain simple.globals negates 0 args.first some
      (ap (λ (r : Rule). r.required) rule) (ap (λ (r : Rule). r.action) rule)
      (simple.args 0 args.first some).delimiter one unique
      (λ empty. true≢false (sym (ap is_empty (sym id ∙ empty))))
      (λ auto. elim auto [
        | inl help ↦ differs (codes "NETWORK") (codes "help") refl (sym id ∙ help)
        | inr version ↦ differs (codes "NETWORK") (codes "version") refl (sym id ∙ version)
      ]) in
      sym (ap is_some (first_value-rows (found_of m) (codes "NETWORK")))
      ∙ sym (ap (λ (t : Text). is_some (first_value (found_of m) t)) id) ∙ given
