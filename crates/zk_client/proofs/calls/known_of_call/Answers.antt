-- By the kind of call: the path's text is UTF-8 by its type (`is_utf8-from_IsUtf8`) and a path by `as_str`, a
-- version fits 32 bits by `known_of_version`, and a create mode is from 0 to 3 by its cases.
use Rattle.std.proofs.lemmas.Int.{ints}
use Rattle.std.proofs.Common.{arith, to_z, of_z, w32}
use Rattle.zk_conversation.specs.declared.call.CreateMode.{CreateMode}
use Rattle.zk_conversation.specs.declared.call.CreateMode.TheVariants.{Persistent, Ephemeral, PersistentSequential, EphemeralSequential}
use Rattle.zk_conversation.specs.Views.{mode_number}
use Rattle.std.proofs.lemmas.Str.{is_utf8-from_IsUtf8}
use Rattle.std.proofs.Common.{subst, sym}
use Rattle.std.proofs.Common.{◌≡◌, ◌≤◌, w32}
use Rattle.zk_conversation.specs.Views.{call_view}
use Rattle.zk_turns.specs.Turns.{IsAskable}
use Rattle.zk_client.proofs.calls.known_of_call.Goals as goal

-- a mode is from 0 to 3
mode_is_small : (mode : CreateMode) → mode_number mode ≤ 3
mode_is_small Persistent = omega arith
mode_is_small Ephemeral = omega arith
mode_is_small PersistentSequential = omega arith
mode_is_small EphemeralSequential = omega arith

pub returns-in-Exists : goal.returns-in-Exists
returns-in-Exists g c = let text = is_utf8-from_IsUtf8 _ (rw c.as_str.ensures.text at c.as_str.utf8) in
    record { asked = subst (λ asked. IsAskable (call_view asked)) (sym c.in-Exists.is) (text, c.as_str.ensures.path) }

pub returns-in-GetData : goal.returns-in-GetData
returns-in-GetData g c = let text = is_utf8-from_IsUtf8 _ (rw c.as_str-in-GetData.ensures.text at c.as_str-in-GetData.utf8) in
    record { asked = subst (λ asked. IsAskable (call_view asked)) (sym c.in-GetData.is) (text, c.as_str-in-GetData.ensures.path) }

pub returns-in-GetChildren : goal.returns-in-GetChildren
returns-in-GetChildren g c = let text =
    is_utf8-from_IsUtf8 _ (rw c.as_str-in-GetChildren.ensures.text at c.as_str-in-GetChildren.utf8) in
    record { asked = subst (λ asked. IsAskable (call_view asked)) (sym c.in-GetChildren.is) (text, c.as_str-in-GetChildren.ensures.path) }

pub returns-in-SetData : goal.returns-in-SetData
returns-in-SetData g c = let text = is_utf8-from_IsUtf8 _ (rw c.as_str-in-SetData.ensures.text at c.as_str-in-SetData.utf8) in
    let v : to_z w32 (of_z w32 c.in-SetData.version) ≡ c.in-SetData.version = omega (arith, ints) in
    record {
      asked = subst (λ asked. IsAskable (call_view asked)) (sym c.in-SetData.is)
          ((text, rw v at c.known_of_version.ensures.range), c.as_str-in-SetData.ensures.path);
    }

pub returns-in-Create : goal.returns-in-Create
returns-in-Create g c = let text = is_utf8-from_IsUtf8 _ (rw c.as_str-in-Create.ensures.text at c.as_str-in-Create.utf8) in
    record {
      asked = subst (λ asked. IsAskable (call_view asked)) (sym c.in-Create.is)
          ((text, mode_is_small c.in-Create.mode), c.as_str-in-Create.ensures.path);
    }

pub returns-in-Delete : goal.returns-in-Delete
returns-in-Delete g c = let text = is_utf8-from_IsUtf8 _ (rw c.as_str-in-Delete.ensures.text at c.as_str-in-Delete.utf8) in
    let v : to_z w32 (of_z w32 c.in-Delete.version) ≡ c.in-Delete.version = omega (arith, ints) in
    record {
      asked = subst (λ asked. IsAskable (call_view asked)) (sym c.in-Delete.is)
          ((text, rw v at c.known_of_version-in-Delete.ensures.range), c.as_str-in-Delete.ensures.path);
    }
