-- What was heard so far is told, except answers to own calls.
use Rattle.zk_client.specs.Clients.{view_of}
use Rattle.ffi_device.specs.inner.Chains.{TellsMore}
use Rattle.ffi_device.specs.Contending.{HearsAll}
use Rattle.ffi_device.proofs.contending.hear_all.Given as goal

abbrev pub invariant-loop-action : goal.invariant-loop-action
invariant-loop-action l = record {
  hears : HearsAll (view_of l.client) l.now l.fn.contenders l.yielded l.contenders;
  told : TellsMore l.yielded l.fn.said.items l.said.items;
}
