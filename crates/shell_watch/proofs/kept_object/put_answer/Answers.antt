-- Data that are kept whole are written as `put_full` ensures, rewritten by the case of the answer.
use Rattle.shell_watch.proofs.kept_object.put_answer.Goals as goal

pub returns-in-Full : goal.returns-in-Full
returns-in-Full g c = rw c.in-Full.is c.put_full.ensures
