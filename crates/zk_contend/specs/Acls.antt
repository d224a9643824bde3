-- The ACL of the nodes that a contender makes, and the creates that carry it.
use Rattle.std.specs.Prelude.{ℕ, pos, ◌≡◌, ◌≢◌, ◌++◌, List, [], Option, Some, None}
use Rattle.zk_jute.specs.Layout.{Value, int, buffer, ustring, vector}
use Rattle.zk_jute.specs.Spelling.{spelling, Fits}
use Rattle.zk_nodes.specs.Path.{Text}
use Rattle.zk_records.specs.Layouts.{acl as entry, create_request}
use Rattle.zk_conversation.specs.Calls.{Call, Create, Raw}
use Rattle.zk_conversation.specs.declared.raw.RawOperation.TheVariants.{Create2}

-- The bytes spell an ACL, as zookeeper.jute has it: a vector of one entry or more, and nothing after it.
pub record IsAcl (bytes : List ℕ) : Type 0 where
  pub entries : List (Value entry)
  pub some : entries ≢ []
  pub fits : Fits (vector entry) (Some entries)
  pub spelled : bytes ≡ spelling (vector entry) (Some entries)

-- What stands after the header of a create2: a path, data, an ACL that is spelled, flags.
abbrev pub create_body : (acl : List ℕ) → (path : Text) → (bytes : Option (List ℕ)) → (flags : ℕ) → List ℕ
create_body acl path bytes flags = spelling ustring (Some path) ++ (spelling buffer bytes ++ (acl ++ spelling int (pos flags)))

-- It is the spelling of CreateRequest with that path, these data, the entries of that ACL, and those flags.
abbrev pub SpellsCreates : Type 0
SpellsCreates = (acl : List ℕ) (path : Text) (bytes : Option (List ℕ)) (flags : ℕ) (is : IsAcl acl)
    → create_body acl path bytes flags ≡ spelling create_request (Some path, (bytes, (Some is.entries, pos flags)))

-- A create of a node: the core's, which gives everybody every right, or a create2 that is spelled, with an ACL.
abbrev pub create_with : (acl : Option (List ℕ)) → (path : Text) → (bytes : Option (List ℕ)) → (flags : ℕ) → Call
create_with None path bytes flags = Create path bytes flags
create_with (Some acl) path bytes flags = Raw Create2 (create_body acl path bytes flags)
