-- A creation and new data are admitted or refused as `admit_new` and `admit_data` ensure for any content, so for this one: rewriting.
use Rattle.std.proofs.Common.{sym, subst}
use Rattle.std.specs.Prelude.{IfErr, OnOk, option_map}
use Rattle.zk_history.specs.Made.{change_of}
use Rattle.ffi_server.specs.Refused.{Admits, RefusesAt, tree_now}
use Rattle.ffi_server.proofs.admitted.admit.Goals as goal

pub returns-in-Create : goal.returns-in-Create
returns-in-Create c =
    let content = option_map (λ v. v.items) c.in-Create.field-1 in record {
      admitted = subst (λ x. OnOk c.admit_new.result (Admits (tree_now c.args.history.now) (change_of x))) (sym c.in-Create.is)
          (c.admit_new.ensures.admitted content c.in-Create.field-2);
      refused = subst (λ x. IfErr c.admit_new.result (RefusesAt (tree_now c.args.history.now) (change_of x))) (sym c.in-Create.is)
          (c.admit_new.ensures.refused content c.in-Create.field-2);
    }

pub returns-in-Set : goal.returns-in-Set
returns-in-Set c =
    let content = option_map (λ v. v.items) c.in-Set.field-1 in record {
      admitted = subst (λ x. OnOk c.admit_data.result (Admits (tree_now c.args.history.now) (change_of x))) (sym c.in-Set.is)
          (c.admit_data.ensures.admitted content);
      refused = subst (λ x. IfErr c.admit_data.result (RefusesAt (tree_now c.args.history.now) (change_of x))) (sym c.in-Set.is)
          (c.admit_data.ensures.refused content);
    }
