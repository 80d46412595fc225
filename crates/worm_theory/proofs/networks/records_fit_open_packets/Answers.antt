use Rattle.worm_theory.proofs.LatestPast.{within_open}
use Rattle.worm_theory.proofs.OpenRecords.{open_at, open_record, free_record, never_two}
use Rattle.worm_theory.proofs.networks.records_fit_open_packets.Goals as goal

pub returns-clause-one : goal.returns-clause-one
returns-clause-one c = λ s net mesh sound hold. open_at s mesh net sound hold

pub returns-clause-within : goal.returns-clause-within
returns-clause-within c = λ s net mesh sound hold lane k there x p v at on.
    within_open s mesh lane there k net sound hold x p v at (on.flit, on.last, on.own_lane, on.own_packet)

pub returns-clause-opened : goal.returns-clause-opened
returns-clause-opened c = λ s net mesh sound hold. open_record s mesh net sound hold

pub returns-clause-free : goal.returns-clause-free
returns-clause-free c = λ s net mesh sound hold. free_record s mesh net sound hold

pub returns-clause-never_two : goal.returns-clause-never_two
returns-clause-never_two c = λ s net mesh sound hold. never_two s mesh net sound hold
