-- What texts and paths have to do with one another.
use Rattle.std.specs.Prelude.{◌≡◌, ◌≤◌, IsTrue, length}
use Rattle.zk_nodes.specs.Path.{Text, NodePath, text_of, path_of, IsPathText, are_names}
use Rattle.zk_nodes.specs.PathFault.{IsPath}
use Rattle.zk_limits.specs.declared.limits.TheConstants.{LONGEST_PATH}

-- A text that begins with a slash is the text of the path that is read from it.
abbrev pub TextIsReadBack : Type 0
TextIsReadBack = (text : Text) → IsPathText text → text_of (path_of text) ≡ text

-- A path whose names are not empty and have no slash is the path of its text.
abbrev pub PathIsReadBack : Type 0
PathIsReadBack = (path : NodePath) → IsTrue (are_names path) → path_of (text_of path) ≡ path

-- A text without fault begins with a slash, is short, and its path has good names.
abbrev pub PathIsGood : Type 0
PathIsGood = (text : Text) → IsPath text → IsPathText text × (length text ≤ LONGEST_PATH) × IsTrue (are_names (path_of text))
