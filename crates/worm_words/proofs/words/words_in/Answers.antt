-- Each part is there, and the texts of the numbers read as numbers in their ranges.
use Rattle.std.proofs.Common.{◌≡◌, ◌∙◌, ℕ, Option, Some, Result, ap, codes, is_some, sym}
use Rattle.std.specs.Prelude.{IsSomeAnd, option_map}
use Rattle.std.specs.Str.Parse.{ExplainsUnsignedError, HasUnsignedDigitsIfOk, ParsesUnsigned}
use Rattle.std.specs.declared.num.ParseIntError.{ParseIntError}
use Rattle.clap.specs.Matches.{ReadsOne, found_of, one_text}
use Rattle.clap.specs.Values.{IsUnsignedIn}
use Rattle.clap.specs.Walk.{Text, one_of, rows_of}
use Rattle.clap.specs.declared.parser.matches.ArgMatches.{ArgMatches}
use Rattle.clap.proofs.WalkLemmas.{first_value-rows, one_text-rows}
use Rattle.worm_words.proofs.NumbersRead.{IsRead, number_read, read_there, some_shown}
use Rattle.worm_words.proofs.words.words_in.Goals as goal

abbrev Gives : Text → Result ℕ ParseIntError → Type 0
Gives t r = ParsesUnsigned 64 10 t r × ExplainsUnsignedError 10 t r × HasUnsignedDigitsIfOk t r

read : (least most : ℕ) (m : ArgMatches) (name : Text) (r : Option ℕ)
    → ((t : Text) → one_text (found_of m) name ≡ Some t → ReadsOne Gives t r)
    → IsSomeAnd (one_of name (rows_of (found_of m))) (IsUnsignedIn least most)
    → IsRead least most (one_of name (rows_of (found_of m))) r
read least most m name r reads given =
    number_read Gives least most (one_of name (rows_of (found_of m))) r (λ t x gives. gives.0)
    (λ t is. reads t (one_text-rows (found_of m) name ∙ is)) given

pub unwrap-requires : goal.unwrap-requires
unwrap-requires c =
    let shown = c.get_str.ensures ∙ first_value-rows (found_of c.args.matches.now) (codes "NETWORK") in
    some_shown _ c.get_str.result _ shown c.requires.network

pub unwrap-requires-2 : goal.unwrap-requires-2
unwrap-requires-2 c =
    let shown = c.get_str-2.ensures ∙ first_value-rows (found_of c.args.matches.now) (codes "TRAFFIC") in
    some_shown _ c.get_str-2.result _ shown c.requires.traffic

pub unwrap-requires-3 : goal.unwrap-requires-3
unwrap-requires-3 c =
    let m = c.args.matches.now in
    ap is_some (read 0 1000000 m (codes "turns") c.get_one.result c.get_one.ensures.value c.requires.turns).is

pub unwrap-requires-4 : goal.unwrap-requires-4
unwrap-requires-4 c =
    let m = c.args.matches.now in
    ap is_some (read 1 16 m (codes "workers") c.get_one-2.result c.get_one-2.ensures.value c.requires.workers).is

pub unwrap-requires-5 : goal.unwrap-requires-5
unwrap-requires-5 c =
    let m = c.args.matches.now in
    ap is_some (read 0 1000000 m (codes "drain") c.get_one-3.result c.get_one-3.ensures.value c.requires.drain).is

pub returns-clause-said : goal.returns-clause-said
returns-clause-said c =
    let m = c.args.matches.now in
    let turns = read 0 1000000 m (codes "turns") c.get_one.result c.get_one.ensures.value c.requires.turns in
    let workers = read 1 16 m (codes "workers") c.get_one-2.result c.get_one-2.ensures.value c.requires.workers in
    let drain = read 0 1000000 m (codes "drain") c.get_one-3.result c.get_one-3.ensures.value c.requires.drain in
    record {
      network = sym (c.get_str.ensures ∙ first_value-rows (found_of m) (codes "NETWORK"))
          ∙ ap (option_map (λ s. s.now)) c.unwrap.ensures;
      traffic = sym (c.get_str-2.ensures ∙ first_value-rows (found_of m) (codes "TRAFFIC"))
          ∙ ap (option_map (λ s. s.now)) c.unwrap-2.ensures;
      turns = (read_there 0 1000000 _ c.get_one.result _ turns c.unwrap-3.ensures).0;
      workers = (read_there 1 16 _ c.get_one-2.result _ workers c.unwrap-4.ensures).0;
      drain = (read_there 0 1000000 _ c.get_one-3.result _ drain c.unwrap-5.ensures).0;
    }

pub returns-clause-range : goal.returns-clause-range
returns-clause-range c =
    let m = c.args.matches.now in
    let turns = read 0 1000000 m (codes "turns") c.get_one.result c.get_one.ensures.value c.requires.turns in
    let workers = read 1 16 m (codes "workers") c.get_one-2.result c.get_one-2.ensures.value c.requires.workers in
    let drain = read 0 1000000 m (codes "drain") c.get_one-3.result c.get_one-3.ensures.value c.requires.drain in
    record {
      turns = (read_there 0 1000000 _ c.get_one.result _ turns c.unwrap-3.ensures).2;
      some_worker = (read_there 1 16 _ c.get_one-2.result _ workers c.unwrap-4.ensures).1;
      few_workers = (read_there 1 16 _ c.get_one-2.result _ workers c.unwrap-4.ensures).2;
      drain = (read_there 0 1000000 _ c.get_one-3.result _ drain c.unwrap-5.ensures).2;
    }
