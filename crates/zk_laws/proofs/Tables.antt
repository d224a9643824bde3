-- The server's table of watches and the client's are one: question by question.
use Rattle.std.proofs.Common.{◌≡◌, true, refl}
use Rattle.zk_nodes.specs.Path.{NodePath}
use Rattle.zk_nodes.specs.declared.side.Side.TheVariants.{Data, Child}
use Rattle.zk_conversation.specs.Questions.{Question, Exists, GetData, GetChildren}
use Rattle.zk_conversation.specs.Results.{Result, NoNode, Found, Read, Listing}
use Rattle.zk_turns.specs.Past.{leaves_data, leaves_child}
use Rattle.zk_laws.specs.Server.{sets}
use Rattle.zk_laws.specs.Laws.{sets_at}

tables : (question : Question) (result : Result) (path : NodePath)
    → (sets question result Data path ≡ sets_at (leaves_data question result) path)
    × (sets question result Child path ≡ sets_at (leaves_child question result) path)
tables (Exists asked true) NoNode path = (refl, refl)
tables (Exists asked true) (Found stat) path = (refl, refl)
tables (GetData asked true) (Read bytes stat) path = (refl, refl)
tables (GetChildren asked true) (Listing names stat) path = (refl, refl)
tables _ _ path = (refl, refl)

pub data_table : (question : Question) (result : Result) (path : NodePath)
    → sets question result Data path ≡ sets_at (leaves_data question result) path
data_table question result path = (tables question result path).0

pub child_table : (question : Question) (result : Result) (path : NodePath)
    → sets question result Child path ≡ sets_at (leaves_child question result) path
child_table question result path = (tables question result path).1
