-- What contracts of private functions say: nobody has to believe it.
use Rattle.zk_nodes.specs.inner.Names.{names_of}
use Rattle.zk_client.specs.Clients.{view_of}
use Rattle.script_rehearse.specs.declared.rig.Rig.{Rig}
use Rattle.script_rehearse.specs.Scenes.{Scene}

abbrev pub scene_of : {A : Type 0} → Rig A → Scene
scene_of rig = record { timeout = rig.timeout; view = view_of rig.client; bench = rig.bench; called = names_of rig.called }
