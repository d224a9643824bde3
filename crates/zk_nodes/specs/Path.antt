-- Names and paths: what a text is the path of, what the names of a path tell, and which paths have good names.
-- The sections named are those of the ZooKeeper Programmer's Guide.
use Rattle.std.specs.Prelude.{ℕ, ◌≡◌, ◌==◌, Bool, true, false, ◌&&◌, not, if◌then◌else◌, List, [], ◌∷◌, ◌++◌, fold, bytes_eq, Option, Some}
use Rattle.std.specs.Prelude.{None, option_map}
use Rattle.std.specs.List.{list_all}

-- A text is the list of its bytes.
abbrev pub Text : Type 0
Text = List ℕ

-- A name in a path ("The ZooKeeper Data Model": a name is a sequence of path elements separated by a slash).
abbrev pub Name : Type 0
Name = Text

-- A path is the list of its names, the last one first: path is the parent of name ∷ path, and [] is the root
-- ("The ZooKeeper Data Model": every node in the name space is identified by a path).
abbrev pub NodePath : Type 0
NodePath = List Name

-- The same names, byte for byte ("The ZooKeeper Data Model": paths are canonical and absolute).
abbrev pub path_eq : NodePath → NodePath → Bool
path_eq [] [] = true
path_eq (x ∷ xs) (y ∷ ys) = bytes_eq x y && path_eq xs ys
path_eq _ _ = false

-- The text of a path: a slash for the root, else a slash before each name ("The ZooKeeper Data Model").
abbrev pub text_of : NodePath → Text
text_of [] = 47 ∷ []
text_of (name ∷ []) = 47 ∷ name
text_of (name ∷ above ∷ path) = text_of (above ∷ path) ++ 47 ∷ name

-- the path so far, with one more byte of its text: a slash begins a name, and any other byte goes to the last one
abbrev pub byte_more : NodePath → ℕ → NodePath
byte_more [] byte = if byte == 47 then [] ∷ [] else (byte ∷ []) ∷ []
byte_more (name ∷ path) byte = if byte == 47 then [] ∷ name ∷ path else (name ++ byte ∷ []) ∷ path

-- The path of a text that begins with a slash: the root's for the slash alone, else the names after the slashes
-- ("The ZooKeeper Data Model"). It is used of such texts alone.
abbrev pub path_of : Text → NodePath
path_of [] = []
path_of (byte ∷ []) = []
path_of (byte ∷ next ∷ bytes) = fold byte_more [] (byte ∷ next ∷ bytes)

-- The text begins with a slash, as each path's does ("The ZooKeeper Data Model": paths are absolute). Then it is the
-- text of its path.
abbrev pub IsPathText : Text → Type 0
IsPathText [] = ⊥
IsPathText (byte ∷ bytes) = byte ≡ 47

-- no byte is a slash
abbrev pub has_no_slash : Name → Bool
has_no_slash name = list_all (λ b. not (b == 47)) name

-- no byte at all
abbrev pub is_empty : Name → Bool
is_empty [] = true
is_empty (b ∷ bs) = false

-- a good name is not empty and has no slash
abbrev pub is_name : Name → Bool
is_name name = not (is_empty name) && has_no_slash name

-- a path of good names
abbrev pub are_names : NodePath → Bool
are_names path = list_all is_name path

-- The parent of a path: the root has none.
abbrev pub parent_of : NodePath → Option NodePath
parent_of [] = None
parent_of (name ∷ path) = Some path

-- The text of the parent of a text's path.
abbrev pub parent_text : Text → Option Text
parent_text text = option_map text_of (parent_of (path_of text))

-- The text of the child with this name of a text's path: the text, a slash unless it is the root's, and the name.
abbrev pub child_text : Text → Name → Text
child_text text name = text_of (name ∷ path_of text)

-- The last name of a path: the root has none.
abbrev pub name_of : NodePath → Option Name
name_of [] = None
name_of (name ∷ path) = Some name
