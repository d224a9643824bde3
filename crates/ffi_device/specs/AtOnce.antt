-- All outputs that wait to be told, as bytes.
use Rattle.std.specs.Prelude.{◌≡◌, ◌≤◌, ◌<◌, ◌+◌, ◌-◌, ◌++◌, ℕ, ℤ, List, [], drop, length, map, Some}
use Rattle.std.specs.Int.{w64, cast_signed}
use Rattle.std.specs.List.{flat_map, AllByRecursion}
use Rattle.zk_jute.specs.Layout.{Layout, Value, buffer, ustring, boolean, long, int, ◌⨾◌}
use Rattle.zk_jute.specs.Spelling.{Fits, spelling}
use Rattle.zk_nodes.specs.StatLayout.{stat}
use Rattle.zk_contend.specs.declared.status.LockStatus.{LockStatus}
use Rattle.zk_agent.specs.declared.action.Action.{Action}
use Rattle.ffi_device.specs.declared.flat.Flat.{Flat}
use Rattle.ffi_device.specs.declared.flat.FlatStat.{FlatStat}
use Rattle.ffi_device.specs.Actions.{action_flat, action_text}
use Rattle.ffi_device.specs.News.{standing_flat}
use Rattle.ffi_device.specs.Outputs.{names_in, words_of}
use Rattle.ffi_device.specs.declared.device.Device.{Device}

-- ---- one output

-- the numbers of an output in their order
abbrev pub numbers_layout : Layout
numbers_layout = int ⨾ (int ⨾ (int ⨾ (int ⨾ (long ⨾ (long ⨾ (long ⨾ (long ⨾ (boolean ⨾ boolean))))))))

-- an output: its numbers; its Stat, zeros if it has none; and what is read apart from them
abbrev pub output_layout : Layout
output_layout = numbers_layout ⨾ (stat ⨾ buffer)

abbrev pub stat_value : FlatStat → Value stat
stat_value s = (
  s.czxid,
  (
    s.mzxid,
    (
      s.ctime,
      (
        s.mtime,
        (
          s.version,
          (
            s.cversion,
            (
              s.aversion,
              (s.ephemeral_owner, (s.data_length, (s.num_children, s.pzxid))),
            ),
          ),
        ),
      ),
    ),
  ),
)

abbrev pub output_value : Flat → (ticket size names : ℤ) → (bytes : List ℕ) → Value output_layout
output_value f ticket size names bytes = (
  (f.kind, (f.detail, (f.result, (f.code, (ticket, (f.zxid, (size, (names, (f.is_null, f.has_stat))))))))),
  (stat_value f.stat, Some bytes),
)

-- what is written of an output with these longs, and that there is such a spelling
unfoldable pub spelled : Flat → (ticket size names : ℤ) → (bytes : List ℕ) → List ℕ
spelled f ticket size names bytes = spelling output_layout (output_value f ticket size names bytes)

unfoldable pub IsSpelled : Flat → (ticket size names : ℤ) → (bytes : List ℕ) → Type 0
IsSpelled f ticket size names bytes = Fits output_layout (output_value f ticket size names bytes)

-- A number of 64 bits without a sign is the long of the same bits.
abbrev pub output_bytes : Flat × List ℕ → List ℕ
output_bytes o = spelled o.0 (cast_signed w64 o.0.ticket) (cast_signed w64 o.0.length) (cast_signed w64 o.0.names) o.1

abbrev pub FitsOutput : Flat × List ℕ → Type 0
FitsOutput o = IsSpelled o.0 (cast_signed w64 o.0.ticket) (cast_signed w64 o.0.length) (cast_signed w64 o.0.names) o.1

-- ---- what waits to be told

-- texts, each after its length
abbrev pub joined : List (List ℕ) → List ℕ
joined = flat_map (λ text. spelling ustring (Some text))

-- What is read apart from the numbers of an action: its text, the names of a listing, and the words of why a connection is given up. Of
-- the last two no action has both.
abbrev pub bytes_of : {A : Type 0} → Action A → List ℕ
bytes_of action = action_text action ++ (joined (names_in (Some action)) ++ words_of (Some action))

-- an output: its numbers, and what is read apart from them
abbrev pub action_output : {A : Type 0} → Action A → Flat × List ℕ
action_output action = (action_flat action, bytes_of action)

-- how a contender stands, which has numbers alone
abbrev pub news_output : ℕ × LockStatus → Flat × List ℕ
news_output one = (standing_flat one, [])

-- the outputs that wait to be told, in the order in which they are told one at a time
abbrev pub waiting : {A : Type 0} → (said : List (Action A)) (news : List (ℕ × LockStatus)) (read : ℕ) → List (Flat × List ℕ)
waiting said news read = map action_output (drop read said) ++ map news_output (drop (read - length said) news)

-- The bytes are these outputs, one after the other.
pub record AreOutputs (outputs : List (Flat × List ℕ)) (text : List ℕ) : Type 0 where
  pub fits : AllByRecursion FitsOutput outputs
  pub is : text ≡ flat_map output_bytes outputs

-- If there is room for all that wait, they are written, at the front, and told. Else nothing is. The count says how much room they want.
pub record WritesOutputs (before : Device) (room written : List ℕ) (count : ℕ) (after : Device) : Type 0 where
  pub text : List ℕ
  pub are : AreOutputs (waiting before.said.items before.news.items before.read) text
  pub count_is : count ≡ length text
  pub whole : length text ≤ length room → written ≡ text ++ drop (length text) room
  pub told : length text ≤ length room → after.read ≡ length before.said.items + length before.news.items
  pub short : length room < length text → written ≡ room
  pub untold : length room < length text → after.read ≡ before.read
  pub agent : after.agent ≡ before.agent
  pub said : after.said ≡ before.said
  pub over : after.is_over ≡ before.is_over
  pub number : after.revision ≡ before.revision
  pub contenders : after.contenders ≡ before.contenders
  pub contends : after.is_contending ≡ before.is_contending
  pub news : after.news ≡ before.news
