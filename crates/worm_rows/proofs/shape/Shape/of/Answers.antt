use Rattle.std.proofs.Common.{ℕ, List, subst, arith, inl, inr}
use Rattle.worm_mesh.specs.Address.{AreRadices}
use Rattle.worm_mesh.specs.Faults.{IsFault}
use Rattle.worm_mesh.specs.declared.mesh.MeshFault.{MeshFault}
use Rattle.worm_mesh.specs.declared.mesh.MeshFault.TheVariants.{Radix, Dims, TooManyNodes}
use Rattle.worm_text.specs.declared.format.Format.{Format}
use Rattle.worm_text.specs.Network.{Network, Keeps, view}
use Rattle.worm_rows.proofs.shape.Shape.of.Goals as goal

kept_mesh : (format : Format) (n : Network) → Keeps format n → AreRadices n.radices
kept_mesh format n kept =
    record {
      some_dims = omega (arith, kept.mesh.dims.0);
      few_dims = kept.mesh.dims.1;
      radices = kept.mesh.each;
      few_nodes = kept.mesh.nodes;
    }

no_fault : (ks : List ℕ) (fault : MeshFault) → AreRadices ks → IsFault ks fault → ⊥
no_fault ks Radix m h = h m.radices
no_fault ks Dims m h = elim h.1 [ inl z ↦ omega (arith, m.some_dims, z) | inr z ↦ omega (arith, m.few_dims, z) ]
no_fault ks TooManyNodes m h = omega (arith, h.3, m.few_nodes)

pub unreachable-requires : goal.unreachable-requires
unreachable-requires c =
    no_fault c.args.config.now.radices.items c.in-Err.field-0
    (kept_mesh c.requires.0 (view c.args.config.now) c.requires.1)
    (subst (λ ks. IsFault ks c.in-Err.field-0) c.as_slice.ensures.value c.in-Err.ensures)
