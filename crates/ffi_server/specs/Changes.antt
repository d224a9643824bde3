-- The changes that a caller names by numbers and bytes.
use Rattle.std.specs.Prelude.{◌==◌, if◌then◌else◌, ℕ, ℤ, pos, negsuc, List, Option, Some, None}
use Rattle.std.specs.Option.{option_map}
use Rattle.zk_nodes.specs.Path.{path_of}
use Rattle.zk_nodes.specs.History.{Change, Creates, Sets, Deletes}
use Rattle.ffi_server.specs.declared.kind.Kind.{Kind}
use Rattle.ffi_server.specs.declared.kind.Kind.TheVariants.{Made, Written, Deleted}

-- the kind of a number, 1 to 3
abbrev pub kind_told : ℤ → Option Kind
kind_told (pos n) = if n == 1 then Some Made else if n == 2 then Some Written else if n == 3 then Some Deleted else None
kind_told (negsuc n) = None

-- the change of a kind: a node has an owner if it is made, and data if it is not deleted
abbrev pub change_by : Kind → (owner : ℤ) → (path content : List ℕ) → Change
change_by Made owner path content = Creates (path_of path) (Some content) owner
change_by Written owner path content = Sets (path_of path) (Some content)
change_by Deleted owner path content = Deletes (path_of path)

-- the change of the kind of a number
abbrev pub change_told : (kind owner : ℤ) → (path content : List ℕ) → Option Change
change_told kind owner path content = option_map (λ it. change_by it owner path content) (kind_told kind)
