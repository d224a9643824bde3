-- By the case of an attempt: what `fail` or `pass_moment` ensures, with the notes left out by `ok_goes`.
use Rattle.std.proofs.Common.{[], ◌∷◌, None}
use Rattle.zk_driver.specs.Driving.{course_of}
use Rattle.zk_driver.specs.Noting.{Missed}
use Rattle.zk_driver.proofs.Going.{ok_goes}
use Rattle.zk_driver.proofs.engine.Engine.settle_closed.Goals as goal

pub returns-in-Some-clause-goes : goal.returns-in-Some-clause-goes
returns-in-Some-clause-goes g c =
    ok_goes c.fail.result (Missed ∷ []) (course_of c.args.self.now None) (course_of c.fail.new.self None) c.fail.ensures.goes

pub returns-in-None-clause-goes : goal.returns-in-None-clause-goes
returns-in-None-clause-goes g c =
    ok_goes c.pass_moment.result [] (course_of c.args.self.now None) (course_of c.pass_moment.new.self None) c.pass_moment.ensures.goes
