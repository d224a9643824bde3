-- Which names a host may have, and which servers are dialled.
use Rattle.std.specs.Prelude.{ℕ, suc, ◌==◌, ◌&&◌, ◌||◌, not, nat_le, nat_lt, Bool, true, false, if◌then◌else◌, [], ◌∷◌, length}
use Rattle.std.specs.Prelude.{Option, Some, None}
use Rattle.zk_link.specs.Hosts.{host_of}
use Rattle.zk_nodes.specs.Path.{Text}
use Rattle.script_live.specs.Addresses.{is_server}

-- a letter, a digit, a hyphen, an underscore; and what IPv6 addresses have: a colon, and a percent sign before a zone
abbrev pub is_label_byte : ℕ → Bool
is_label_byte b =
    (nat_le 97 b && nat_le b 122) || ((nat_le 65 b && nat_le b 90) || ((nat_le 48 b && nat_le b 58) || (b == 45 || (b == 95 || b == 37))))

-- Whether a byte may follow this many bytes of a label: a dot if there is one, or another byte if there are fewer than 63.
abbrev pub may_follow : (length byte : ℕ) → Bool
may_follow length byte = if byte == 46 then not (length == 0) else is_label_byte byte && nat_lt length 63

-- how many bytes its label has then
abbrev pub grown : (length byte : ℕ) → ℕ
grown length byte = if byte == 46 then 0 else suc length

-- Whether bytes may follow this many bytes of a label: labels with dots between them, of which the last one may be empty.
abbrev pub are_labels : (length : ℕ) → Text → Bool
are_labels length [] = true
are_labels length (b ∷ bytes) = may_follow length b && are_labels (grown length b) bytes

-- at most 253 bytes: labels with dots between them
abbrev pub is_host_name : Text → Bool
is_host_name name = nat_le (length name) 253 && are_labels 0 name

abbrev pub has_host_name : Option (Text × Text) → Bool
has_host_name (Some host) = is_host_name host.0
has_host_name None = false

-- a server whose host may have its name
abbrev pub is_named_server : Text → Bool
is_named_server text = is_server text && has_host_name (host_of text)
