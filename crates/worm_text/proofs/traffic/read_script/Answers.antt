use Rattle.std.proofs.Common.{sym, ap, subst, arith, inr}
use Rattle.std.specs.Prelude.{codes}
use Rattle.worm_mesh.specs.Address.{node_count}
use Rattle.worm_text.specs.Network.{view}
use Rattle.worm_text.specs.ScriptView.{said_of}
use Rattle.worm_text.specs.TrafficFaults.{AnswersOrFull, IsEntryLine}
use Rattle.worm_text.proofs.Entries.{header_ill, header_well, differs, agrees}
use Rattle.worm_text.proofs.NodeCounts.{nodes_some}
use Rattle.worm_text.proofs.TrafficPieces.{behind_header}
use Rattle.worm_text.proofs.traffic.read_script.Goals as goal

pub returns-then-ne : goal.returns-then-ne
returns-then-ne c =
    let e = differs c.ne.result c.in-Some.header.now c.as_slice-2.result.now
    (codes "wormtraffic 1") c.ne.ensures c.as_slice-2.ensures c.if-ne.true in
    inr (header_ill (view c.args.config.now) c.args.bytes.now c.in-Some.header.now c.in-Some.rest.now
    c.in-Some.ensures.parts e)

pub read_entries-requires-clause-some : goal.read_entries-requires-clause-some
read_entries-requires-clause-some c = omega (
  arith,
  nodes_some c.args.config.now.radices.items c.requires.1.mesh.each,
  c.node_count-nodes.ensures,
  ap node_count c.as_slice.ensures.value,
)

pub returns : goal.returns
returns c =
    let n = view c.args.config.now in
    let e = agrees c.ne.result c.in-Some.header.now c.as_slice-2.result.now
    (codes "wormtraffic 1") c.ne.ensures c.as_slice-2.ensures c.if-ne.false in
    let same = header_well n c.args.bytes.now c.in-Some.header.now c.in-Some.rest.now c.in-Some.ensures.parts e in
    subst (AnswersOrFull said_of (IsEntryLine n c.args.bytes.now) c.read_entries.result) (sym same)
    (behind_header n c.args.bytes.now c.in-Some.header.now c.in-Some.rest.now c.read_entries.result _
    c.in-Some.ensures.parts e c.read_entries.ensures)
