-- The nodes joined again make a sound network.
use Rattle.std.proofs.Common.{◌≡◌, ℕ, ◌+◌, ◌<◌, ◌==◌, List, ◌++◌, length, All, Option, Some, None, refl, ◌∙◌, arith}
use Rattle.std.proofs.Common.{length-append}
use Rattle.std.proofs.lemmas.List.Elements.{All-nil, filter-append}
use Rattle.worm_flit.specs.declared.Flit.{Flit}
use Rattle.worm_flit.specs.Stamps.{on_channel}
use Rattle.worm_theory.specs.Worm.{Runs, worm_after}
use Rattle.worm_theory.specs.Shape.{Shape, IsMesh}
use Rattle.worm_theory.specs.Network.{Network, upstream}
use Rattle.worm_theory.specs.Sound.{Sound, Leaves, LinksRun, CreditsAdd}
use Rattle.worm_theory.specs.Growth.{SinksGrow, SourcesGrow}
use Rattle.worm_theory.proofs.Runs.{Runs-append, Runs-split}
use Rattle.worm_theory.specs.Parts.{Parts, opened, reached}
use Rattle.worm_theory.specs.PartSound.{PartSound, PartQueues, PartHolds, count_of}
use Rattle.worm_theory.specs.Links.{LinkHolds}
use Rattle.worm_theory.specs.Join.{Holds, IsRest, joined_parts}
use Rattle.worm_theory.proofs.PartLists.{Runs-end, All-right, count-append}
use Rattle.worm_theory.proofs.LaneJoin.{join_lanes}
use Rattle.worm_theory.proofs.PacketJoin.{join_packets}

-- What was sent on a link and has not arrived goes on from where the channel stands, and ends where the sender stands.
module _ (s : Shape) (old : Network) (parts : Parts) (sound : PartSound s old parts) (y o x : ℕ)
    (linked : s.neighbour y o ≡ Some x) (flits : List Flit)
    (order : parts.near.out y o ≡ parts.arrived x (s.opposite o) ++ flits) where
  pub link_goes_on : (v : ℕ) → Runs (reached old parts x (s.opposite o) v) (on_channel v flits)
      (upstream parts.near y o v)
  link_goes_on v =
      let all : Runs (opened old x (s.opposite o) v)
      (on_channel v (parts.arrived x (s.opposite o)) ++ on_channel v flits) (upstream parts.near y o v) =
      rw (order, filter-append (λ (g : Flit). v == g.vc) (parts.arrived x (s.opposite o)) flits) at
      (sound.departures y o x v linked) in
      let halves =
      Runs-split (on_channel v (parts.arrived x (s.opposite o))) (on_channel v flits) (opened old x (s.opposite o) v)
      (upstream parts.near y o v) all in
      let met =
      Runs-end (on_channel v (parts.arrived x (s.opposite o))) (opened old x (s.opposite o) v) halves.0 halves.1 in
      rw met halves.2

  pub link_leaves : All (Leaves s y o) flits
  link_leaves = All-right (Leaves s y o) (parts.arrived x (s.opposite o)) flits (rw order at (sound.leaving y o))

-- The two halves of a channel's balance, and the order of its link and of its credit line.
module _ (s : Shape) (mesh : IsMesh s) (old : Network) (parts : Parts) (was : Sound s old)
    (sound : PartSound s old parts) (y o x : ℕ) (linked : s.neighbour y o ≡ Some x)
    (flits : List Flit) (credits : List ℕ) (holds : LinkHolds s parts y o x flits credits) where
  pub link_balance : (v : ℕ) → v < s.vcs →
      parts.near.credits y o v + length (on_channel v flits) + length (parts.near.buffer x (s.opposite o) v) +
      parts.near.owed x (s.opposite o) v + count_of v credits ≡ s.depth
  link_balance v there =
      let back = mesh.link_back y o x linked in
      let twice = mesh.opposite_twice y o x linked in
      let order = holds.sent in
      let line = holds.given in
      let split = filter-append (λ (g : Flit). v == g.vc) (parts.arrived x (s.opposite o)) flits in
      let up =
      rw (order, split, length-append (on_channel v (parts.arrived x (s.opposite o))) (on_channel v flits)) at
      (sound.credits_up y o x v there linked) in
      let down =
      rw (twice, line, count-append v (parts.near.credit_list y o) credits) at
      (sound.credits_down x (s.opposite o) y v there back) in
      let whole = was.credits y o x v there linked in
      omega arith

  pub line_channels : All (λ c. c < s.vcs) credits
  line_channels =
      All-right (λ (c : ℕ). c < s.vcs) (parts.near.credit_list y o) credits
      (rw holds.given at (sound.given x (s.opposite o)))

module _ (s : Shape) (mesh : IsMesh s) (old : Network) (parts : Parts) (flits : ℕ → ℕ → List Flit)
    (credits : ℕ → ℕ → List ℕ) (rest : IsRest s parts flits credits) where
  module _ (was : Sound s old) (sound : PartSound s old parts) where
    join_links : LinksRun s (joined_parts parts flits credits)
    join_links y o x v linked =
        Runs-append (parts.near.buffer x (s.opposite o) v) (on_channel v (flits y o))
        (worm_after (parts.near.last_out x (s.opposite o) v)) (reached old parts x (s.opposite o) v)
        (upstream parts.near y o v)
        (sound.arrivals x (s.opposite o) y v (mesh.link_back y o x linked))
        (link_goes_on s old parts sound y o x linked (flits y o) (rest.links y o x linked).sent v)

    join_credits : CreditsAdd s (joined_parts parts flits credits)
    join_credits y o x v there linked =
        link_balance s mesh old parts was sound y o x linked (flits y o) (credits y o)
        (rest.links y o x linked) v there

    entries_at : (y o : ℕ) (end : Option ℕ) → s.neighbour y o ≡ end → All (λ c. c < s.vcs) (credits y o)
    entries_at y o None e = rw (rest.ends y o e).1 (All-nil (λ (c : ℕ). c < s.vcs))
    entries_at y o (Some x) e =
        line_channels s mesh old parts was sound y o x e (flits y o) (credits y o) (rest.links y o x e)

    leaving_at : (y o : ℕ) (end : Option ℕ) → s.neighbour y o ≡ end → All (Leaves s y o) (flits y o)
    leaving_at y o None e = rw (rest.ends y o e).0 (sound.leaving y o)
    leaving_at y o (Some x) e = link_leaves s old parts sound y o x e (flits y o) (rest.links y o x e).sent

    pub join_sound : Sound s (joined_parts parts flits credits)
    join_sound = record {
      links = join_links;
      sources = sound.sources;
      sinks = λ x v. let all = (rest.ends x s.terminal (mesh.terminal_alone x)).0 in rw all (sound.sinks x v);
      records = sound.records;
      holders = sound.holders;
      fits = sound.fits;
      credits = join_credits;
      entries = λ y o. entries_at y o (s.neighbour y o) refl;
      buffered = sound.buffered;
      passed = sound.passed;
      leaving = λ y o. leaving_at y o (s.neighbour y o) refl;
      unfed = sound.unfed;
      accepted = sound.accepted;
      histories = sound.histories;
    }

  pub join_holds : Holds s old → PartHolds s old parts → Holds s (joined_parts parts flits credits)
  join_holds was hold = record {
    sound = join_sound was.sound hold.sound;
    cut = join_lanes s mesh old parts hold.queues flits credits rest was.cut;
    packets = join_packets s mesh old was.sound was.packets was.others parts hold.sound hold.queues flits credits rest;
    others = hold.others;
    closed = hold.closed;
  }

  pub join_sinks : PartSound s old parts → SinksGrow s old (joined_parts parts flits credits)
  join_sinks sound x =
      let more = sound.sent_since x s.terminal in (more.0, (rest.ends x s.terminal (mesh.terminal_alone x)).0 ∙ more.1)

pub join_sources : (s : Shape) (old : Network) (parts : Parts) (flits : ℕ → ℕ → List Flit) (credits : ℕ → ℕ → List ℕ) →
    PartQueues s old parts → SourcesGrow old (joined_parts parts flits credits)
join_sources s old parts flits credits queues x k = let source = queues.sources x k in (source.0, source.1)
