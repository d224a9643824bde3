-- A turn by the rule is one item more, after which `Entries` says that the client is served; its view tells the rest (`Views`).
use Rattle.theory_serving.proofs.Views.{first_session, good_session, opened_session, received_session, cut_session, told_session}
use Rattle.theory_serving.proofs.Views.{asked_session, forget_session, there_session, takes_session, rests_session, waits_session}
use Rattle.theory_serving.proofs.Views.{processes_session, answers_session}
use Rattle.theory_serving.proofs.sessions.Goals as goal

pub returns-clause-begins : goal.returns-clause-begins
returns-clause-begins c start view shown from timed stands = first_session start view shown from timed stands

pub returns-clause-opened : goal.returns-clause-opened
returns-clause-opened c view after place outputs old new s rule low hears = opened_session view old s place outputs after new rule low hears

pub returns-clause-received : goal.returns-clause-received
returns-clause-received c view after bytes rest outputs old new s rule e hears =
    received_session view old s bytes rest outputs after new rule e hears

pub returns-clause-cut : goal.returns-clause-cut
returns-clause-cut c view after outputs old new s rule same = cut_session view old s outputs after new rule same

pub returns-clause-told : goal.returns-clause-told
returns-clause-told c view after moment outputs old new s rule hears = told_session view old s moment outputs after new rule hears

pub returns-clause-asked : goal.returns-clause-asked
returns-clause-asked c view after ticket call outputs old new s rule hears =
    asked_session view old s ticket call outputs after new rule hears

pub returns-clause-forgets : goal.returns-clause-forgets
returns-clause-forgets c view after shown s stands = forget_session view shown s after stands

pub returns-clause-there : goal.returns-clause-there
returns-clause-there c view shown s up = there_session view shown s up

pub returns-clause-takes : goal.returns-clause-takes
returns-clause-takes c view steps old new s up open_now t = takes_session view old s steps new up open_now t

pub returns-clause-waits : goal.returns-clause-waits
returns-clause-waits c view shown s up open_now = waits_session view shown s up open_now

pub returns-clause-processes : goal.returns-clause-processes
returns-clause-processes c view old new s up open_now some does = processes_session view old s new up open_now some does

pub returns-clause-answers : goal.returns-clause-answers
returns-clause-answers c view old new is s up open_now some does = answers_session view old s is new up open_now some does

pub returns-clause-rests : goal.returns-clause-rests
returns-clause-rests c view old new s g rests = rests_session view old s new g rests

pub returns-clause-good : goal.returns-clause-good
returns-clause-good c view shown is s = good_session view shown is s
