use Rattle.std.proofs.Common.{◌<◌, ◌∙◌, length, refl, rules, sym}
use Rattle.worm_wires.proofs.FrontRead.{read_back, read_else}
use Rattle.worm_wires.proofs.inbox.Fronts.file.Goals as goal

pub returns-in-Some : goal.returns-in-Some
returns-in-Some g c =
    let there : c.args.port < length c.args.self.now.front = search rules in
    record {
      comes = rw (← c.is_some.ensures) c.put.ensures;
      listed = rw (← c.is_some-2.ensures) c.put-2.ensures;
      first = λ some.
          read_back c.args.self.now.front c.args.port c.from.result c.in-Some.first there c.from.ensures
          ∙ sym c.in-Some.is;
      others = λ q other.
          read_else c.args.self.now.front c.args.port c.from.result q c.in-Some.first c.from.ensures other;
    }

pub returns-in_default : goal.returns-in_default
returns-in_default g c = record {
  comes = rw (← c.is_some.ensures) c.put.ensures;
  listed = rw (← c.is_some-2.ensures) c.put-2.ensures;
  first = λ some. let none = rw c.in_default.is at some in absurd (cc);
  others = λ q other. refl;
}
