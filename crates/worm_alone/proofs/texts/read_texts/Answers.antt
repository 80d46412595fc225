use Rattle.std.proofs.Common.{rules}
use Rattle.worm_alone.proofs.texts.read_texts.Goals as goal

pub returns-in-Err-Unreadable-read_text-clause-err : goal.returns-in-Err-Unreadable-read_text-clause-err
returns-in-Err-Unreadable-read_text-clause-err g c = search rules

pub returns-in-Err-Unreadable-clause-err : goal.returns-in-Err-Unreadable-clause-err
returns-in-Err-Unreadable-clause-err g c = search rules

pub returns-in-Err-NoMemory-clause-err : goal.returns-in-Err-NoMemory-clause-err
returns-in-Err-NoMemory-clause-err g c = search rules

pub returns-in-Err-NoMemory-read_text-clause-err : goal.returns-in-Err-NoMemory-read_text-clause-err
returns-in-Err-NoMemory-read_text-clause-err g c = search rules

pub returns-clause-ok : goal.returns-clause-ok
returns-clause-ok g c = search rules
