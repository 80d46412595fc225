use Rattle.worm_theory.proofs.WormFormed.{record-fits}
use Rattle.worm_theory.proofs.OpenRecords.{same_class}
use Rattle.worm_theory.proofs.networks.records_fit_their_channels.Goals as goal

pub returns-clause-record : goal.returns-clause-record
returns-clause-record c = record-fits

pub returns-clause-classes : goal.returns-clause-classes
returns-clause-classes c = λ s net sound x p v o k active. same_class s net sound x p v o k active
