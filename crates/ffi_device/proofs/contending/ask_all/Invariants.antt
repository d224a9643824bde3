-- What was asked so far was taken.
use Rattle.ffi_device.specs.inner.Contending.{AsksMore}
use Rattle.ffi_device.proofs.contending.ask_all.Given as goal

abbrev pub invariant-loop : goal.invariant-loop
invariant-loop l = record {
  more : AsksMore l.now (l.fn.agent, l.fn.contenders) (l.agent, l.contenders) l.fn.said.items l.said.items;
}
