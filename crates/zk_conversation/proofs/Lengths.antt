-- How long requests are.
use Rattle.std.proofs.Common.{◌≡◌, ℕ, ◌+◌, ℤ, Bool, true, false, List, [], ◌∷◌, map, pos, length, Option, Some, None, refl, arith}
use Rattle.std.proofs.Common.{length-append}
use Rattle.std.specs.List.{flat_map}
use Rattle.zk_jute.specs.Lenient.{or_empty}
use Rattle.zk_jute.specs.Layout.{ustring, vector}
use Rattle.zk_jute.specs.Spelling.{int_bytes, long_bytes, boolean_bytes, counted_bytes, spelling}
use Rattle.zk_records.specs.Layouts.{acl}
use Rattle.zk_records.specs.OpenAcl.{open_acl}
use Rattle.zk_conversation.specs.Calls.{Exists, GetData, GetChildren, SetData, Create, Delete, Close, Raw, call_payload, connect_payload}
use Rattle.zk_conversation.specs.Calls.{part_payload, ping_payload}
use Rattle.zk_conversation.specs.declared.raw.RawOperation.{RawOperation}
use Rattle.zk_nodes.specs.Path.{Text}

pub length-int : (z : ℤ) → length (int_bytes z) ≡ 4
unfolding int_bytes
length-int z = refl

pub length-long : (z : ℤ) → length (long_bytes z) ≡ 8
unfolding long_bytes
length-long z = refl

length-boolean : (b : Bool) → length (boolean_bytes b) ≡ 1
length-boolean true = refl
length-boolean false = refl

pub length-counted : (bytes : Option (List ℕ)) → length (counted_bytes (λ b. b) bytes) ≡ 4 + length (or_empty bytes)
unfolding counted_bytes int_bytes
length-counted None = refl
length-counted (Some bytes) = omega arith

length-acl : length (spelling (vector acl) open_acl) ≡ 27
unfolding counted_bytes int_bytes
length-acl = refl

pub length-exists : (xid : ℤ) (path : List ℕ) (watch : Bool) → length (call_payload xid (Exists path watch)) ≡ 13 + length path
unfolding call_payload
length-exists xid path watch = simp (length-append, length-int, length-counted, length-boolean) (omega arith)

pub length-get_data : (xid : ℤ) (path : List ℕ) (watch : Bool) → length (call_payload xid (GetData path watch)) ≡ 13 + length path
unfolding call_payload
length-get_data xid path watch = simp (length-append, length-int, length-counted, length-boolean) (omega arith)

pub length-get_children : (xid : ℤ) (path : List ℕ) (watch : Bool) → length (call_payload xid (GetChildren path watch)) ≡ 13 + length path
unfolding call_payload
length-get_children xid path watch = simp (length-append, length-int, length-counted, length-boolean) (omega arith)

pub length-set_data : (xid : ℤ) (path : List ℕ) (bytes : Option (List ℕ)) (version : ℤ)
    → length (call_payload xid (SetData path bytes version)) ≡ 20 + length path + length (or_empty bytes)
unfolding call_payload
length-set_data xid path bytes version = simp (length-append, length-int, length-counted) (omega arith)

pub length-create : (xid : ℤ) (path : List ℕ) (bytes : Option (List ℕ)) (mode : ℕ)
    → length (call_payload xid (Create path bytes mode)) ≡ 47 + length path + length (or_empty bytes)
unfolding call_payload
length-create xid path bytes mode = simp (length-append, length-int, length-counted, length-acl) (omega arith)

pub length-delete : (xid : ℤ) (path : List ℕ) (version : ℤ) → length (call_payload xid (Delete path version)) ≡ 16 + length path
unfolding call_payload
length-delete xid path version = simp (length-append, length-int, length-counted) (omega arith)

pub length-close : (xid : ℤ) → length (call_payload xid Close) ≡ 8
unfolding call_payload
length-close xid = simp (length-append, length-int) (omega arith)

pub length-raw : (xid : ℤ) (operation : RawOperation) (bytes : List ℕ) → length (call_payload xid (Raw operation bytes)) ≡ 8 + length bytes
unfolding call_payload
length-raw xid operation bytes = simp (length-append, length-int) (omega arith)

pub length-connect : (last timeout session : ℤ) (password : List ℕ)
    → length (connect_payload last timeout session password) ≡ 29 + length password
unfolding connect_payload
length-connect last timeout session password = simp (length-append, length-int, length-long, length-counted) (omega arith)

pub length-ping : length ping_payload ≡ 8
unfolding ping_payload
length-ping = simp (length-append, length-int) (omega arith)

-- the bytes that these paths take
abbrev pub weights : List Text → ℕ
weights [] = 0
weights (path ∷ paths) = (4 + length path) + weights paths

pub length-text : (text : Text) → length (spelling ustring (Some text)) ≡ 4 + length text
unfolding counted_bytes int_bytes
length-text text = omega arith

pub length-texts : (texts : List Text) → length (flat_map (spelling ustring) (map Some texts)) ≡ weights texts
length-texts [] = refl
length-texts (text ∷ texts) =
    let a = length-append (spelling ustring (Some text)) (flat_map (spelling ustring) (map Some texts)) in
    let b = length-text text in
    let c = length-texts texts in
    omega arith

pub length-vector : (texts : List Text) → length (counted_bytes (flat_map (spelling ustring)) (Some (map Some texts))) ≡ 4 + weights texts
unfolding counted_bytes
length-vector texts =
    let a = length-append (int_bytes (pos (length (map Some texts)))) (flat_map (spelling ustring) (map Some texts)) in
    let b = length-int (pos (length (map Some texts))) in
    let c = length-texts texts in
    omega arith

pub length-part : (relative : ℤ) (known missing parents : List Text)
    → length (part_payload relative known missing parents) ≡ 28 + (weights known + (weights missing + weights parents))
unfolding part_payload
length-part relative known missing parents = simp (length-append, length-int, length-long, length-vector) (omega arith)
