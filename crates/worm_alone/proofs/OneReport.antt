-- Two texts have one report of a whole run on one thread.
use Rattle.std.proofs.Common.{◌≡◌, ℕ, ◌-◌, List, [], ◌∷◌, length, Option, Some, None, Result, Ok, refl, ap, sym}
use Rattle.std.proofs.Common.{subst, ◌∙◌}
use Rattle.worm_core.proofs.Determined.{run_one}
use Rattle.worm_region.proofs.NewNet.{fresh_one}
use Rattle.worm_region.specs.NewNet.{IsFresh}
use Rattle.worm_region.specs.State.{NetState}
use Rattle.worm_region.specs.Totals.{accepted_total}
use Rattle.worm_region.specs.Turns.{OneThreadRun}
use Rattle.worm_region.specs.declared.fault.StepFault.{StepFault}
use Rattle.worm_region.specs.declared.fault.StepFault.TheVariants.{NoMemory}
use Rattle.worm_script.specs.declared.entry.Act.{Act}
use Rattle.worm_script.specs.declared.entry.Act.TheVariants.{Offer, Close}
use Rattle.worm_script.specs.declared.entry.Entry.{Entry}
use Rattle.worm_report.specs.Report.{report}
use Rattle.worm_report.specs.Seen.{seen}
use Rattle.worm_text.proofs.TrafficAgain.{IsNamed, reads_traffic}
use Rattle.worm_text.proofs.Whole.{reads_text}
use Rattle.worm_text.specs.declared.fault.TextFault.{TextFault}
use Rattle.worm_text.specs.Network.{Network}
use Rattle.worm_text.specs.Reader.{network_of}
use Rattle.worm_text.specs.ScriptView.{said_of}
use Rattle.worm_text.specs.Traffic.{Said, said, traffic_of}
use Rattle.worm_alone.specs.Programs.{IsReported, SaysNetwork, SaysTraffic, summary_of, whole_run}

same_answer : {A : Type 0} (x y : A) → ◌≡◌ {A = Result A TextFault} (Ok x) (Ok y) → x ≡ y
same_answer x y e = cc

-- a text says one thing
one_network : (bytes : List ℕ) (a b : Network) → SaysNetwork bytes a → SaysNetwork bytes b → a ≡ b
one_network bytes a b this that =
    same_answer a b
    (sym (reads_text this.format a this.keeps) ∙ ap network_of (sym this.spelled ∙ that.spelled)
    ∙ reads_text that.format b that.keeps)

one_traffic : (network bytes : List ℕ) (config : Network) (a b : List Said) → SaysNetwork network config →
    SaysTraffic config bytes a → SaysTraffic config bytes b → a ≡ b
one_traffic network bytes config a b says this that =
    let named : IsNamed config =
    record {
      few = says.keeps.mesh.nodes;
      spelled = says.keeps.classes.spelled;
      apart = says.keeps.classes.apart;
    } in
    same_answer a b
    (sym (reads_traffic config a named this.keeps) ∙ ap (traffic_of config) (sym this.spelled ∙ that.spelled)
    ∙ reads_traffic config b named that.keeps)

-- what is said of a script is all of it
one_act : (t u : ℕ) (a b : Act) → said t a ≡ said u b → (t ≡ u) × (a ≡ b)
one_act t u (Offer p) (Offer q) e =
    let lane : p.lane ≡ q.lane = cc in
    let words : p.words ≡ q.words = cc in
    let same : p ≡ q = λ i. record { lane = lane i; words = words i } in
    (cc, ap Offer same)
one_act t u (Offer p) (Close lane) e = absurd (cc)
one_act t u (Close lane) (Offer q) e = absurd (cc)
one_act t u (Close lane) (Close other) e = (cc, cc)

one_script : (a b : List Entry) → said_of a ≡ said_of b → a ≡ b
one_script [] [] e = refl
one_script [] (f ∷ fs) e = absurd (cc)
one_script (e ∷ es) [] same = absurd (cc)
one_script (e ∷ es) (f ∷ fs) same =
    let first : said e.turn e.act ≡ said f.turn f.act = cc in
    let rest = one_script es fs (cc) in
    let parts = one_act e.turn f.turn e.act f.act first in
    let entry : e ≡ f = λ i. record { turn = parts.0 i; act = parts.1 i } in
    λ i. entry i ∷ rest i

no_want : ◌≡◌ {A = Option StepFault} None (Some NoMemory) → ⊥
no_want e = absurd (cc)

pub one_report : (network traffic : List ℕ) (turns drain : ℕ) (first second : List ℕ) →
    IsReported network traffic turns drain whole_run first → IsReported network traffic turns drain whole_run second →
    first ≡ second
one_report network traffic turns drain first second a b =
    let config : a.config ≡ b.config = one_network network a.config b.config a.of_network b.of_network in
    let script : a.script ≡ b.script =
    one_script a.script b.script
    (one_traffic network traffic a.config (said_of a.script) (said_of b.script) a.of_network a.of_traffic
    (subst (λ (c : Network). SaysTraffic c traffic (said_of b.script)) (sym config) b.of_traffic)) in
    let opening : a.opening ≡ b.opening =
    fresh_one a.config.radices a.config.channels a.config.depth a.config.classes a.opening b.opening a.fresh
    (subst (λ (c : Network). IsFresh c.radices c.channels c.depth c.classes b.opening) (sym config) b.fresh) in
    let run : OneThreadRun a.script turns drain a.opening None None b.closing =
    subst (λ (s : List Entry). OneThreadRun s turns drain a.opening None None b.closing) (sym script)
    (subst (λ (s : NetState). OneThreadRun b.script turns drain s None None b.closing) (sym opening) b.run) in
    let closing = (run_one a.script turns drain a.opening a.closing b.closing None None None None a.run run no_want
    no_want).2 in
    let told : List Entry → NetState → List ℕ
    = λ s net. report (seen net) (summary_of turns drain whole_run (length s - accepted_total net)) in
    a.reported ∙ ap (told a.script) closing ∙ ap (λ (s : List Entry). told s b.closing) script ∙ sym b.reported
