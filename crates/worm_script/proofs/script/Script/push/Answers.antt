use Rattle.std.proofs.Common.{◌≡◌, ◌++◌, ◌∷◌, [], List, length, ap, arith, rules, ℕ, ◌-◌, ◌∙◌, get_or, set}
use Rattle.std.proofs.lemmas.Grind.{common_steps}
use Rattle.worm_script.proofs.ScriptKept.{one_more_is}
use Rattle.worm_script.proofs.script.Script.push.Goals as goal

pub invariant_of-self-2 : goal.invariant_of-self-2
invariant_of-self-2 c =
    let inside = c.self.inside in
    let entries : c.push.new.self.items ≡ inside.entries.items ++ c.args.entry ∷ [] = search rules in
    let start : c.push-2.new.self.items ≡ inside.gaps.items ++ 0 ∷ [] = search rules in
    let last = get_or inside.lasts c.from-source.result 0 in
    one_more_is inside.entries.items inside.gaps.items inside.lasts c.args.entry c.push.new.self.items
    c.lead_to_end.new.gaps.items c.from-source.result c.len.result c.self.invariant (search rules)
    (grind (arith, common_steps)) c.recall.ensures (search rules) (search rules) entries (search rules)
    (λ none. c.lead_to_end.ensures.none none ∙ start)
    (λ some. c.lead_to_end.ensures.some some ∙ ap (λ (gs : List ℕ). set gs (last - 1) (length gs - last)) start)

pub returns-clause-ok : goal.returns-clause-ok
returns-clause-ok c = search rules
