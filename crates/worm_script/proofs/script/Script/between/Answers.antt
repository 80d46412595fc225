use Rattle.std.proofs.Common.{◌≡◌, ◌-◌, ◌≤◌, ◌∙◌, List, ap, arith, drop, length, subst, sym}
use Rattle.std.proofs.lemmas.List.Elements.{All-drop, All-take}
use Rattle.worm_script.specs.Script.{sources_of, AreGaps, HasWords, HaveWords}
use Rattle.worm_script.specs.declared.entry.Entry.{Entry}
use Rattle.worm_script.proofs.GapsOfPart.{gaps_between}
use Rattle.worm_script.proofs.NextOfSource.{as_many}
use Rattle.worm_script.proofs.script.Script.between.Goals as goal

pub new-requires-clause-gaps : goal.new-requires-clause-gaps
new-requires-clause-gaps c =
    let entries = c.deref.result.now in
    let same : entries ≡ c.args.self.now = c.deref.ensures.value ∙ c.self.view_is in
    let many = as_many entries in
    let long : length entries ≡ length c.args.self.now = ap (length {A = Entry}) same in
    let within : c.args.next ≤ length (sources_of entries) = omega (arith, c.requires.within) in
    let gaps : AreGaps (sources_of entries) c.deref-2.result.now =
    subst (λ (es : List Entry). AreGaps (sources_of es) c.deref-2.result.now) (sym c.deref.ensures.value)
    (subst (AreGaps (sources_of c.self.inside.entries.items)) (sym c.deref-2.ensures.value) c.self.invariant.nexts) in
    gaps_between entries c.deref-2.result.now c.args.first c.args.next c.requires.rise within gaps

pub new-requires-clause-words : goal.new-requires-clause-words
new-requires-clause-words c =
    let entries = c.deref.result.now in
    let has = λ (e : Entry). HasWords e.act in
    All-take has (c.args.next - c.args.first) (drop c.args.first entries)
    (All-drop has c.args.first entries (subst HaveWords (sym c.deref.ensures.value) c.self.invariant.words))
