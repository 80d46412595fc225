-- The command is one whose matches and faults `clap` defines, and a parse of it that succeeds finds every part.
use Rattle.std.proofs.Common.{◌≡◌, ◌∙◌, [], ap, inl, inr, refl, subst, true}
use Rattle.std.specs.Prelude.{List}
use Rattle.clap.specs.Faults.{fault_of, is_simple_and_free}
use Rattle.clap.specs.Kinds.{HasKind, Kinds}
use Rattle.clap.specs.Matches.{found_of}
use Rattle.clap.specs.Simple.{App, app_of, is_simple, matches_of}
use Rattle.clap.specs.Takes.{takes}
use Rattle.clap.specs.Values.{kind_of}
use Rattle.clap.specs.Walk.{Row, rows_of, texts}
use Rattle.clap.specs.declared.error.Error.{Error}
use Rattle.clap.specs.declared.error.kind.ErrorKind.{ErrorKind}
use Rattle.clap.specs.declared.error.kind.ErrorKind.TheVariants.{OutOfMemory}
use Rattle.clap.proofs.TakesLemmas.{passed_up}
use Rattle.worm_words.specs.Commands.{IsRefused, Say, command}
use Rattle.worm_words.specs.Faults.{parser_fault}
use Rattle.worm_words.proofs.Complete.{complete}
use Rattle.worm_words.proofs.words.read_words.Goals as goal

simple : is_simple command ≡ true
unfolding command
simple = refl

free : is_simple_and_free command ≡ true
unfolding command
free = refl

refused : (kinds : Kinds) (e : Error) → HasKind kinds e → IsRefused kinds (parser_fault (kind_of e) e)
refused kinds e has = by_kind (kind_of e) refl
  where
    by_kind : (k : ErrorKind) → kind_of e ≡ k → IsRefused kinds (parser_fault k e)
    by_kind OutOfMemory is = tt
    by_kind k is = elim has [ inl bad ↦ cc | inr among ↦ among ]

pub returns-in_err-matches-clause-refused : goal.returns-in_err-matches-clause-refused
returns-in_err-matches-clause-refused c =
    let e = c.in_err-matches.field-0.0 in
    let words = texts c.args.words.now in
    let has = subst (λ (a : App). is_simple_and_free a ≡ true → HasKind (fault_of a words) e)
    c.in_ok-command.ensures c.in_err-matches.ensures.kinds in
    passed_up c.from_residual-in_err-matches.result _ _ c.from_residual-in_err-matches.ensures.1
    (refused (fault_of command words) e (has free))

pub returns-in_err-matches-clause-taken : goal.returns-in_err-matches-clause-taken
returns-in_err-matches-clause-taken c =
    let e = c.in_err-matches.field-0.0 in
    let words = texts c.args.words.now in
    let passes = subst (λ (a : App). takes a words ≡ true → kind_of e ≡ OutOfMemory)
    c.in_ok-command.ensures c.in_err-matches.ensures.passes in
    passed_up c.from_residual-in_err-matches.result _ _ c.from_residual-in_err-matches.ensures.1
    (λ taken. ap (λ k. parser_fault k e) (passes taken))

pub words_in-requires : goal.words_in-requires
words_in-requires c =
    complete c.in_ok-command.field-0 c.in_ok-matches.matches c.in_ok-matches.ensures.parsed c.in_ok-command.ensures

pub returns-clause-said : goal.returns-clause-said
returns-clause-said c =
    let app_is = c.in_ok-command.ensures in
    let words = texts c.args.words.now in
    let matched = c.in_ok-matches.ensures.matches (ap is_simple app_is ∙ simple) in
    let rows : rows_of (found_of c.in_ok-matches.matches) ≡ matches_of command words =
    matched.0 ∙ ap (λ (a : App). matches_of a words) app_is in
    subst (λ (r : List Row). Say r c.words_in.result) rows c.words_in.ensures.said

pub returns-clause-faultless : goal.returns-clause-faultless
returns-clause-faultless c =
    let words = texts c.args.words.now in
    let none = subst (λ (a : App). is_simple_and_free a ≡ true → fault_of a words ≡ [])
    c.in_ok-command.ensures c.in_ok-matches.ensures.kinds in
    none free
