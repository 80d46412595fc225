-- After a parse that succeeded an option that has an entry has a text in the option's range.
use Rattle.std.proofs.Common.{◌≡◌, ◌⊎◌, ◌∙◌, ◌<◌, ◌≤◌, ℕ, Bool, true, false, List, [], ◌∷◌, length, Option, Some}
use Rattle.std.proofs.Common.{None, is_some, ap, arith, inl, inr, refl, subst, sym}
use Rattle.std.specs.Borrow.{Bor}
use Rattle.std.specs.List.{All, Any, slice_index_or}
use Rattle.std.specs.Prelude.{IsSomeAnd, option_map, slice_get}
use Rattle.std.specs.Str.{bytes_eq}
use Rattle.std.proofs.lemmas.Slice.Eq.{bytes_eq-Decides}
use Rattle.clap.specs.Built.{IsAuto, IsParsedFrom, IsPlain, SameRules}
use Rattle.clap.specs.Facts.{Entry, EntryPasses, IsGroupEntry, PassesArg, args_of, groups_of, least_values, parser_of}
use Rattle.clap.specs.Facts.{parser_of_value}
use Rattle.clap.specs.Matches.{found_of, matched_of, one_text}
use Rattle.clap.specs.Values.{Accepts, read_as, reading_of}
use Rattle.clap.specs.Walk.{Text}
use Rattle.clap.specs.declared.builder.action.ArgAction.TheVariants.{Count, Set}
use Rattle.clap.specs.declared.builder.arg.Arg.{Arg}
use Rattle.clap.specs.declared.builder.command.Command.{Command}
use Rattle.clap.specs.declared.builder.command.Command.TheViews.{out-Command}
use Rattle.clap.specs.declared.builder.value_parser.Reading.{Reading}
use Rattle.clap.specs.declared.builder.value_parser.Reading.TheVariants.{AsWritten}
use Rattle.clap.specs.declared.builder.value_parser.ValueParser.{ValueParser}
use Rattle.clap.specs.declared.parser.matches.ArgMatches.{ArgMatches}
use Rattle.clap.specs.declared.parser.matches.MatchedArg.{MatchedArg}
use Rattle.clap.proofs.CallerLemmas.{entry_by_id, same_rules_by_id}

first_text : (Q : Text → Type 0) (how : Reading) (vs : List (Bor Text)) → how ≡ AsWritten → 0 < length vs
    → All (λ v. Q v.now) vs
    → IsSomeAnd (option_map (λ s. read_as how s.now) (slice_get vs 0)) Q
first_text Q how [] written some all = absurd (omega arith)
first_text Q how (v ∷ vs) written some all = rw written (all 0 v some)

-- the argument at a place takes one value or more, each as written and by its parser
pub record TakesValues (a : Arg) (parser : ValueParser) : Type 0 where
  pub action : a.action ≡ Some Set
  pub delimiter : a.val_delim ≡ None
  pub least : 1 ≤ least_values a
  pub parsed : a.value_parser ≡ Some parser
  pub written : reading_of parser ≡ AsWritten

module _ (old : Command) (m : ArgMatches) (p : IsParsedFrom old m) (plain : IsPlain old)
    (local : (out-Command old).has_globals ≡ false) (k : ℕ) (d : Arg) (lt : k < length (args_of old))
    (unique : (j : ℕ) (e : Arg) → j < length (args_of old)
    → bytes_eq (slice_index_or (args_of old) j e).id.now (slice_index_or (args_of old) k d).id.now ≡ true → j ≡ k)
    (named : (slice_index_or (args_of old) k d).id.now ≡ [] → ⊥)
    (own : IsAuto (slice_index_or (args_of old) k d) → ⊥) where
  abbrev here : Arg
  here = slice_index_or (args_of old) k d

  -- an argument of the built command with this id has the rules of this argument
  same_here : (P : Arg → Type 0) (id : Text) → id ≡ here.id.now
      → Any (λ a. (bytes_eq a.id.now id ≡ true) × P a) (args_of p.built) → (x : Arg) × SameRules here x × P x
  same_here P id key any = (
    any.1,
    same_rules_by_id old m p k d lt unique own any.0 any.1 any.2 any.3 (rw key at any.4.0),
    any.4.1,
  )

  no_group : (e : Entry) → e.0.now ≡ here.id.now → IsGroupEntry p.built e → e.1.is_group ≡ true → ⊥
  no_group e key group is = elim (group is) [
    | inl empty ↦ named (sym key ∙ empty)
    | inr some ↦
        let none : groups_of p.built ≡ [] = (p.from.plain plain).1 in
        let bad : 0 < 0 = rw none at some in
        absurd (omega arith)
  ]

  has_values : (q : ValueParser) (e : Entry) → TakesValues here q → e.0.now ≡ here.id.now → EntryPasses p.built e
      → 0 < length e.1.vals.items
  has_values q e takes key passes = elim passes.1 [
    | inl group ↦ absurd (no_group e key passes.3 group.0)
    | inr (inl some) ↦ some
    | inr (inr (inl counts)) ↦
        let s = same_here _ e.0.now key counts.1 in
        let set : s.0.action ≡ Some Set = s.1.action Set takes.action in
        let bad : Set ≡ Count = rw set at s.2 in
        cc
    | inr (inr (inr none)) ↦
        let s = same_here _ e.0.now key none in
        elim s.2 [
          | inl zero ↦ let one = s.1.least takes.action takes.least in absurd (omega arith)
          | inr cut ↦ let bad : false ≡ true = rw (s.1.val_delim, takes.delimiter) at cut in cc
        ]
  ]

  value_accepted : (q : ValueParser) (id v : Text) → TakesValues here q → id ≡ here.id.now → PassesArg p.built id v
      → Accepts here.ignore_case q v
  value_accepted q id v takes key passes =
      let s = same_here _ id key passes in
      let is : parser_of s.0 ≡ q = ap parser_of_value (s.1.parser q takes.parsed) in
      let as_q : Accepts s.0.ignore_case q v = subst (λ (w : ValueParser). Accepts s.0.ignore_case w v) is s.2 in
      subst (λ (b : Bool). Accepts b q v) s.1.ignore_case as_q

  values_accepted : (q : ValueParser) (e : Entry) → TakesValues here q → e.0.now ≡ here.id.now → EntryPasses p.built e
      → All (λ v. Accepts here.ignore_case q v.now) e.1.vals.items
  values_accepted q e takes key passes = elim passes.0 [
    | inl group ↦ absurd (no_group e key passes.3 group)
    | inr all ↦ λ i v below. value_accepted q e.0.now _ takes key (all i v below)
  ]

  is_written : (q : ValueParser) (e : Entry) → TakesValues here q → e.0.now ≡ here.id.now → EntryPasses p.built e
      → e.1.reading ≡ AsWritten
  is_written q e takes key passes = elim passes.4 [
    | inl group ↦ absurd (no_group e key passes.3 group)
    | inr any ↦
        let s = same_here _ e.0.now key any in
        let is : parser_of s.0 ≡ q = ap parser_of_value (s.1.parser q takes.parsed) in
        sym s.2 ∙ ap reading_of is ∙ takes.written
  ]

  pub option_given : (q : ValueParser) → TakesValues here q → is_some (matched_of (found_of m) here.id.now) ≡ true
      → IsSomeAnd (one_text (found_of m) here.id.now) (Accepts here.ignore_case q)
  option_given q takes some = at_entry (matched_of (found_of m) here.id.now) refl some
    where
      at_entry : (o : Option MatchedArg) → matched_of (found_of m) here.id.now ≡ o → is_some o ≡ true
          → IsSomeAnd (one_text (found_of m) here.id.now) (Accepts here.ignore_case q)
      at_entry None is given = let bad : false ≡ true = given in cc
      at_entry (Some x) is given =
          let values = (p.parsed (p.from.globals ∙ local)).values in
          let got = entry_by_id (EntryPasses p.built) (found_of m).entries.items here.id.now x values is in
          let key : got.0.0.now ≡ here.id.now = (bytes_eq-Decides _ _).0 got.2 in
          let text = first_text (Accepts here.ignore_case q) got.0.1.reading got.0.1.vals.items
          (is_written q got.0 takes key got.3) (has_values q got.0 takes key got.3)
          (values_accepted q got.0 takes key got.3) in
          rw (is, ← got.1) text
