use Rattle.lockfile.proofs.FileLaws.{file_again, text_again}
use Rattle.lockfile.proofs.written_again.file_laws.Goals as goal

pub returns-clause-value : goal.returns-clause-value
returns-clause-value c g records roots graph fit = file_again g records roots graph fit

pub returns-clause-text : goal.returns-clause-text
returns-clause-text c g records roots graph fit text json lock is = text_again g records roots graph fit text json lock is
