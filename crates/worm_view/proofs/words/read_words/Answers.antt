-- The command is one whose matches and faults `clap` defines, and a parse of it that succeeds finds the network.
use Rattle.std.proofs.Common.{◌≡◌, ◌∙◌, ◌⊎◌, [], Result, Ok, Err, IfOk, IfErr, OnOk, ap, inl, inr, refl, subst}
use Rattle.std.proofs.Common.{sym, true}
use Rattle.std.specs.Prelude.{List}
use Rattle.clap.specs.Faults.{fault_of, is_simple_and_free}
use Rattle.clap.specs.Kinds.{HasKind, Kinds}
use Rattle.clap.specs.Matches.{found_of}
use Rattle.clap.specs.Simple.{App, is_simple, matches_of}
use Rattle.clap.specs.Takes.{takes}
use Rattle.clap.specs.Values.{kind_of}
use Rattle.clap.specs.Walk.{Row, rows_of, texts}
use Rattle.clap.specs.declared.error.Error.{Error}
use Rattle.clap.specs.declared.error.kind.ErrorKind.{ErrorKind}
use Rattle.clap.specs.declared.error.kind.ErrorKind.TheVariants.{OutOfMemory}
use Rattle.clap.proofs.TakesLemmas.{passed_up}
use Rattle.worm_view.specs.declared.words.WordsFault.{WordsFault}
use Rattle.worm_view.specs.declared.words.WordsFault.TheVariants.{Both, NoMemory}
use Rattle.worm_view.specs.Commands.{AskBoth, IsRefused, Say, command}
use Rattle.worm_view.specs.Faults.{IsNoCommand, parser_fault}
use Rattle.worm_view.proofs.Named.{named}
use Rattle.worm_view.proofs.words.read_words.Goals as goal

simple : is_simple command ≡ true
unfolding command
simple = refl

free : is_simple_and_free command ≡ true
unfolding command
free = refl

refused : (kinds : Kinds) (rows : List Row) (e : Error) → HasKind kinds e
    → IsRefused kinds rows (parser_fault (kind_of e) e)
refused kinds rows e has = by_kind (kind_of e) refl
  where
    by_kind : (k : ErrorKind) → kind_of e ≡ k → IsRefused kinds rows (parser_fault k e)
    by_kind OutOfMemory is = tt
    by_kind k is = elim has [ inl bad ↦ cc | inr among ↦ among ]

pub returns-in_err-matches-clause-refused : goal.returns-in_err-matches-clause-refused
returns-in_err-matches-clause-refused c =
    let e = c.in_err-matches.field-0.0 in
    let words = texts c.args.words.now in
    let has = subst (λ (a : App). is_simple_and_free a ≡ true → HasKind (fault_of a words) e)
    c.in_ok-command.ensures c.in_err-matches.ensures.kinds in
    passed_up c.from_residual-in_err-matches.result _ _ c.from_residual-in_err-matches.ensures.1
    (refused (fault_of command words) (matches_of command words) e (has free))

pub returns-in_err-matches-clause-taken : goal.returns-in_err-matches-clause-taken
returns-in_err-matches-clause-taken c =
    let e = c.in_err-matches.field-0.0 in
    let words = texts c.args.words.now in
    let passes = subst (λ (a : App). takes a words ≡ true → kind_of e ≡ OutOfMemory)
    c.in_ok-command.ensures c.in_err-matches.ensures.passes in
    passed_up c.from_residual-in_err-matches.result _ _ c.from_residual-in_err-matches.ensures.1
    (λ taken. inl (ap (λ k. parser_fault k e) (passes taken)))

pub words_in-requires : goal.words_in-requires
words_in-requires c =
    named c.in_ok-command.field-0 c.in_ok-matches.matches c.in_ok-matches.ensures.parsed c.in_ok-command.ensures

module _ {X : Type 0} where
  -- of a fault that is answered for two forms alone
  only_both : (r : Result X WordsFault) {Q : Type 0} (P : WordsFault → Type 0) → IfErr r (λ fault. (fault ≡ Both) × Q)
      → (Q → P Both) → IfErr r P
  only_both (Ok x) P h k = tt
  only_both (Err fault) P h k = subst P (sym h.0) (k h.1)

  whatever : (r : Result X WordsFault) {Q : Type 0} → Q → OnOk r Q
  whatever (Ok x) q = q
  whatever (Err fault) q = tt

pub returns : goal.returns
returns c =
    let app_is = c.in_ok-command.ensures in
    let words = texts c.args.words.now in
    let matched = c.in_ok-matches.ensures.matches (ap is_simple app_is ∙ simple) in
    let rows : rows_of (found_of c.in_ok-matches.matches) ≡ matches_of command words =
    matched.0 ∙ ap (λ (a : App). matches_of a words) app_is in
    let none = subst (λ (a : App). is_simple_and_free a ≡ true → fault_of a words ≡ []) app_is
    c.in_ok-matches.ensures.kinds in
    let r = c.words_in.result in
    let both = subst (λ (rs : List Row). IfErr r (λ fault. (fault ≡ Both) × AskBoth rs)) rows
    c.words_in.ensures.both in
    record {
      said = subst (λ (rs : List Row). IfOk r (Say rs)) rows c.words_in.ensures.said;
      faultless = whatever r (none free);
      err = only_both r IsNoCommand both (λ asks. tt);
      refused = only_both r (IsRefused (fault_of command words) (matches_of command words)) both
          (λ asks. (none free, asks));
      taken = only_both r (λ fault. takes command words ≡ true
          → (fault ≡ NoMemory) ⊎ ((fault ≡ Both) × AskBoth (matches_of command words))) both
          (λ asks passes. inr (refl, asks));
    }
