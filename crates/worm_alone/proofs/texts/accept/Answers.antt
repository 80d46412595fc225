use Rattle.std.proofs.Common.{◌≡◌, inl, inr, rules}
use Rattle.worm_text.specs.Network.{view}
use Rattle.worm_text.specs.declared.fault.Why.TheVariants.{NoMemory}
use Rattle.worm_alone.specs.Programs.{SaysNetwork}
use Rattle.worm_alone.proofs.NoWant.{no_want}
use Rattle.worm_alone.proofs.texts.accept.Goals as goal

-- where memory ran out over the traffic text
pub returns-in-Err-read_traffic-clause-err : goal.returns-in-Err-read_traffic-clause-err
returns-in-Err-read_traffic-clause-err c =
    let config = view c.in-Ok.config in
    let found = c.in-Ok.ensures.found in
    let says : SaysNetwork c.args.network.now config =
    record { format = found.0; keeps = found.1; spelled = found.2 } in
    let fault = c.in-Err-read_traffic.fault in
    let want : fault.why ≡ NoMemory = search rules in
    elim c.in-Err-read_traffic.ensures.exact [
      | inl full ↦ record { config = config; of_network = says; line = fault.line; so_far = full.1 }
      | inr is ↦ absurd (no_want config c.args.traffic.now fault is want)
    ]
