-- A part that takes one turn after another.
use Rattle.std.proofs.Common.{◌≡◌, ℕ, ◌+◌, ◌<◌, true, List, [], ◌∷◌, ◌++◌, Some, None, refl, arith}
use Rattle.std.proofs.Common.{ap, sym, subst, ◌∙◌, append-nil, append_assoc, length-append}
use Rattle.worm_flit.specs.declared.Flit.{Flit}
use Rattle.worm_mesh.specs.Address.{node_count}
use Rattle.worm_script.specs.Script.{AreInOrder, begun_at, due}
use Rattle.worm_region.specs.State.{source_at, sink_at}
use Rattle.worm_region.specs.Owned.{owned_by}
use Rattle.worm_region.specs.Workable.{owned}
use Rattle.worm_region.specs.declared.owner.Owner.{Owner}
use Rattle.worm_script.specs.declared.entry.Entry.{Entry}
use Rattle.worm_split.specs.PartState.{PartState, IsSamePart}
use Rattle.worm_split.specs.PartTurns.{Turn}
use Rattle.worm_split.specs.Effects.{HasAccepted, OneMore, SourcesTake, SinksTakeOne}
use Rattle.worm_split.proofs.PartLoops.{of_more, same_on, same_still}
use Rattle.worm_split.proofs.Accepted.{accepted-none, accepted-then}
use Rattle.worm_run.specs.Working.{GrewBy, HasTurned, Turns, due_before}
use Rattle.worm_run.proofs.Entries.{begun-more, due_before-zero}

-- a node of the part is one of it still
pub there_still : (a b : PartState) (x : ℕ) → IsSamePart a b → x < node_count a.net.mesh → x < node_count b.net.mesh
there_still a b x same below = subst (λ (m : List ℕ). x < node_count m) (sym same.config.mesh) below

pub own_still : (a b : PartState) (x : ℕ) → IsSamePart a b → owned a.net x ≡ true → owned b.net x ≡ true
own_still a b x same own = subst (λ (w : Owner). owned_by w x ≡ true) (sym same.config.own) own

-- at most so many flits, and then one at most
pub grew_more : (n : ℕ) (a b c : List Flit) → GrewBy n a b → OneMore b c → GrewBy (n + 1) a c
grew_more n a b c grew (None, one) = (grew.0, one ∙ (append-nil b ∙ grew.1), omega (arith, grew.2))
grew_more n a b c grew (Some f, one) =
    let count = length-append grew.0 (f ∷ []) in (
      grew.0 ++ f ∷ [],
      one ∙ (ap (λ (l : List Flit). l ++ f ∷ []) grew.1 ∙ append_assoc a grew.0 (f ∷ [])),
      omega (arith, grew.2, count),
    )

-- no turn yet
pub turned-none : (script : List Entry) (p : PartState) → HasTurned script 0 p p
unfolding Turns
turned-none script p = record {
  exact = (refl, refl);
  same = same_still p;
  sources = λ x below own. subst (λ (es : List Entry). HasAccepted (source_at p.net x) (begun_at x es)
      (source_at p.net x)) (sym (due_before-zero script)) (accepted-none (source_at p.net x));
  sinks = λ x below own. ([], sym (append-nil (sink_at p.net x).delivered), omega arith);
}

-- one turn more
module _ (script : List Entry) (n : ℕ) (in_order : AreInOrder script) (old mid new : PartState) where
  pub turned-more : HasTurned script n old mid → Turn (due n script) mid None new → IsSamePart mid new →
      SourcesTake (due n script) mid None new → SinksTakeOne mid new → HasTurned script (n + 1) old new
  unfolding Turns
  turned-more turned exact same sources sinks = record {
    exact = of_more (λ t. Turn (due t script)) n old mid new turned.exact exact;
    same = same_on old mid new turned.same same;
    sources = λ x below own.
        let took = sources x (there_still old mid x turned.same below) (own_still old mid x turned.same own) in
        let then : HasAccepted (source_at mid.net x) (begun_at x (due n script)) (source_at new.net x) = subst
        (λ (es : List Entry). HasAccepted (source_at mid.net x) es (source_at new.net x))
        (sym (took.all refl)) took.accepted in
        subst (λ (es : List Entry). HasAccepted (source_at old.net x) es (source_at new.net x))
        (sym (begun-more script n x in_order))
        (accepted-then (source_at old.net x) (source_at mid.net x) (source_at new.net x)
        (begun_at x (due_before n script)) (begun_at x (due n script)) (turned.sources x below own) then);
    sinks = λ x below own.
        grew_more n (sink_at old.net x).delivered (sink_at mid.net x).delivered (sink_at new.net x).delivered
        (turned.sinks x below own)
        (sinks x (there_still old mid x turned.same below) (own_still old mid x turned.same own));
  }
