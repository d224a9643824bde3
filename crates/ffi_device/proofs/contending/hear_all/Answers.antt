-- One action more was heard: `more_told`.
use Rattle.std.proofs.Common.{rules}
use Rattle.std.proofs.lemmas.Fn.{FoldsTo-push}
use Rattle.std.specs.declared.alloc.Global.{Global}
use Rattle.zk_client.specs.Clients.{view_of}
use Rattle.zk_contend.specs.declared.collection.Contenders.{Contenders}
use Rattle.zk_agent.specs.declared.action.Action.{Action}
use Rattle.ffi_device.specs.Contending.{is_own_answer, HearsWhere}
use Rattle.ffi_device.proofs.OwnCalls.{more_told, none_told}
use Rattle.ffi_device.proofs.contending.hear_all.Goals as goal

pub loop-action-preserved : goal.loop-action-preserved
loop-action-preserved c = record {
  hears = FoldsTo-push
      (λ (from : Contenders Global) (one : Action Global) to.
      HearsWhere (is_own_answer one) (view_of c.args.client.now) c.args.now one from to)
      c.args.contenders.now c.loop-action.yielded c.loop-action.contenders c.in-Some.action c.hear.new.contenders
      c.loop-action.invariant.hears c.in_ok-hear.ensures.hears;
  told = more_told c.loop-action.yielded c.in-Some.action c.args.said.now.items c.loop-action.said.items
      c.hear.new.said.items c.loop-action.invariant.told c.in_ok-hear.ensures.told;
}
