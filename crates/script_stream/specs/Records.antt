-- The words of a record, by its layout and the names that zookeeper.jute gives to its fields.
use Rattle.std.specs.Prelude.{ℕ, List, [], ◌∷◌, ◌++◌, codes}
use Rattle.zk_jute.specs.Layout.{Layout, int, long, boolean, buffer, ustring, vector, ◌⨾◌, Value}
use Rattle.script_words.specs.Words.{text_word, boolean_word}
use Rattle.script_stream.specs.Names.{event_name}
use Rattle.script_stream.specs.Words.{count_word, named, numbered, size_word}

infixr 5 ◌&◌
-- How a record's fields are told: not at all, under a name, as the type of an event under a name, the first alone, one field after another.
pub data Labels : Type 0 where
  untold : Labels
  one : List ℕ → Labels
  event : List ℕ → Labels
  only : Labels → Labels
  ◌&◌ : Labels → Labels → Labels

-- the words of a value, whose fields are told so: of data how many bytes they are, and of a list how many elements it has
abbrev pub words_of : (layout : Layout) → Labels → Value layout → List ℕ
words_of int (one name) z = numbered name z
words_of int (event name) z = numbered name z ++ 32 ∷ event_name z
words_of long (one name) z = numbered name z
words_of boolean (one name) flag = named name (boolean_word flag)
words_of buffer (one name) bytes = named name (size_word bytes)
words_of ustring (one name) text = named name (text_word text)
words_of (vector element) (one name) values = named name (count_word values)
words_of (first ⨾ second) (before & behind) value = words_of first before value.0 ++ words_of second behind value.1
words_of (first ⨾ second) (only label) value = words_of first label value.0
words_of layout labels value = []

-- without the password
abbrev pub connect_labels : Labels
connect_labels = one (codes "protocolVersion")
    & (one (codes "lastZxidSeen") & (one (codes "timeOut") & (one (codes "sessionId") & (untold & one (codes "readOnly")))))

abbrev pub read_labels : Labels
read_labels = one (codes "path") & one (codes "watch")

abbrev pub set_data_labels : Labels
set_data_labels = one (codes "path") & (one (codes "data") & one (codes "version"))

abbrev pub create_labels : Labels
create_labels = one (codes "path") & (one (codes "data") & (one (codes "acl") & one (codes "flags")))

abbrev pub delete_labels : Labels
delete_labels = one (codes "path") & one (codes "version")

-- without the paths
abbrev pub set_watches_labels : Labels
set_watches_labels = only (one (codes "relativeZxid"))

abbrev pub event_labels : Labels
event_labels = event (codes "type") & (one (codes "state") & one (codes "path"))

abbrev pub stat_end_labels : Labels
stat_end_labels = one (codes "aversion")
    & (one (codes "ephemeralOwner") & (one (codes "dataLength") & (one (codes "numChildren") & one (codes "pzxid"))))

abbrev pub stat_labels : Labels
stat_labels = one (codes "czxid") & (one (codes "mzxid")
    & (one (codes "ctime") & (one (codes "mtime") & (one (codes "version") & (one (codes "cversion") & stat_end_labels)))))

abbrev pub get_data_labels : Labels
get_data_labels = one (codes "data") & stat_labels

abbrev pub get_children_labels : Labels
get_children_labels = one (codes "children")

abbrev pub get_children2_labels : Labels
get_children2_labels = one (codes "children") & stat_labels

abbrev pub created_labels : Labels
created_labels = one (codes "path")
