-- the port of the lowest digit that differs leads on
use Rattle.std.proofs.Common.{arith, ap, sym, ◌∙◌}
use Rattle.std.proofs.lemmas.Grind.{common_steps}
use Rattle.worm_mesh.proofs.Digits.{AreLarge-from_radices}
use Rattle.worm_route.specs.Route.{port_of}
use Rattle.worm_route.proofs.Onward.{onward, port_arrived}
use Rattle.worm_route.proofs.next_port.Goals as goal

pub returns-then-digit-aim-clause-value : goal.returns-then-digit-aim-clause-value
returns-then-digit-aim-clause-value c = grind (arith, common_steps)

pub returns-then-digit-aim-clause-arrived : goal.returns-then-digit-aim-clause-arrived
returns-then-digit-aim-clause-arrived c = λ same.
    returns-then-digit-aim-clause-value c ∙ ap (port_of c.args.mesh.now c.args.here) (sym same)
    ∙ port_arrived c.args.mesh.now c.args.here

pub returns-then-digit-aim-clause-onward : goal.returns-then-digit-aim-clause-onward
returns-then-digit-aim-clause-onward c = λ ne.
    rw (returns-then-digit-aim-clause-value c)
    (onward c.args.mesh.now (AreLarge-from_radices c.args.mesh.now c.dims-d-end.ensures.mesh.radices) c.args.here
    c.args.dst c.requires.here_in c.requires.dst_in ne)

pub returns-then-digit-aim-2-clause-value : goal.returns-then-digit-aim-2-clause-value
returns-then-digit-aim-2-clause-value c = grind (arith, common_steps)

pub returns-then-digit-aim-2-clause-arrived : goal.returns-then-digit-aim-2-clause-arrived
returns-then-digit-aim-2-clause-arrived c = λ same.
    returns-then-digit-aim-2-clause-value c ∙ ap (port_of c.args.mesh.now c.args.here) (sym same)
    ∙ port_arrived c.args.mesh.now c.args.here

pub returns-then-digit-aim-2-clause-onward : goal.returns-then-digit-aim-2-clause-onward
returns-then-digit-aim-2-clause-onward c = λ ne.
    rw (returns-then-digit-aim-2-clause-value c)
    (onward c.args.mesh.now (AreLarge-from_radices c.args.mesh.now c.dims-d-end.ensures.mesh.radices) c.args.here
    c.args.dst c.requires.here_in c.requires.dst_in ne)

pub returns-clause-value : goal.returns-clause-value
returns-clause-value c = grind (arith, common_steps)

pub returns-clause-onward : goal.returns-clause-onward
returns-clause-onward c = λ ne.
    rw (returns-clause-value c) (onward c.args.mesh.now
    (AreLarge-from_radices c.args.mesh.now c.dims-d-end.ensures.mesh.radices) c.args.here c.args.dst
    c.requires.here_in c.requires.dst_in ne)
