use Rattle.worm_theory.proofs.Regions.{parts_hold, parts_sinks, parts_sources}
use Rattle.worm_theory.proofs.parts.makes_a_whole.Goals as goal

pub returns : goal.returns
returns c = λ s old owner net taken returned flits credits mesh was part queues. (
  parts_hold s mesh old was owner net taken returned part flits credits queues,
  parts_sinks s mesh old was owner net taken returned part flits credits queues,
  parts_sources s mesh old was owner net taken returned part flits credits queues,
)
